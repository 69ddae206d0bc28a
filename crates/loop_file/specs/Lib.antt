pub mod Outcomes
pub mod Windows
