pub mod Pattern
pub mod Refusals
pub mod Script
pub mod Sessions
pub mod Tasks
pub mod Upgrade
