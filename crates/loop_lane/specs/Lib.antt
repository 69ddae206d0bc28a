pub mod Lane
pub mod Refused
pub mod Reopened
pub mod Filmed
pub mod RingHolds
