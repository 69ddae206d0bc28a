pub mod Depths
pub mod Header
pub mod Stream
pub mod Text
pub mod Export
pub mod Reader
pub mod Steps
