mod SourceTick
mod Active
pub mod TickLinks
pub mod Crossing
