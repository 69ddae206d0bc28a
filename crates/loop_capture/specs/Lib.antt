pub mod Sources
pub mod Ticks
