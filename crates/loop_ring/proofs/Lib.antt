pub mod AnswerPairs
pub mod Heads
pub mod HeldBlocks
pub mod VictimByHeads
pub mod Bytes
pub mod Retirements
pub mod BlockBeginnings
pub mod SlotStages
mod GroupSlots
pub mod Commits
pub mod SlotReads
pub mod StrayGates
pub mod SegmentOrder
pub mod IndexOrder
pub mod Oldest
pub mod ClipCounts
pub mod Crossing
