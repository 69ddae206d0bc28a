pub mod Table
pub mod Upgrade
