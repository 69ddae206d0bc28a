pub mod OutputBytes
pub mod Recordings
