pub mod Moments
pub mod Images
pub mod RowBytes
pub mod Calls
pub mod GhostData
pub mod CrashCalls
pub mod TornWrites
