pub mod LaneRuns
pub mod EventReplies
pub mod QueueTurns
pub mod LaneFrames
pub mod Order
pub mod RecordTexts
pub mod StopImages
pub mod NewestHeld
