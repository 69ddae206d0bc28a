pub mod TableLocks
pub mod UpgradeWrites
pub mod Crossing
