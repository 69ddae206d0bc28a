pub mod Times
pub mod Keeps
pub mod HolderCounts
pub mod ClaimTries
