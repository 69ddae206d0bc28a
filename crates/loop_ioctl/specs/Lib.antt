pub mod Types
pub mod Names
pub mod Attached
pub mod Calls
pub mod Parts
pub mod Events
pub mod Modelled
