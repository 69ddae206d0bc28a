pub mod Places
pub mod Numbers
pub mod Words
pub mod Lines
pub mod Pixels
mod Rows
pub mod Retry
pub mod PartWrites
pub mod Starts
pub mod Frames
pub mod HeaderStart
pub mod Digits
pub mod ReadBack
pub mod Ranges
pub mod ExportPieces
