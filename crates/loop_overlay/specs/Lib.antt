pub mod Layers
pub mod Log
pub mod Pages
pub mod Parts
pub mod Sound
