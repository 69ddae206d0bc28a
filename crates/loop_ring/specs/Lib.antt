pub mod Heads
pub mod Reads
pub mod Writes
pub mod Groups
pub mod Entries
