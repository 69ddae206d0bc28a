pub mod Printed
pub mod Recorded
