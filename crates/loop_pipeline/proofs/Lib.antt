pub mod Seating
mod Alone
mod BackRuns
mod Bringing
mod CountedTicks
mod EmptyQueue
mod FrameSteps
mod FrontRuns
mod Happening
mod Joining
mod Doors
mod KeepCalls
mod Leaves
mod Leaving
mod Oldest
mod OldestGoes
mod OutPlanes
mod RingEnds
mod Roomy
mod Searching
mod Settling
mod SeveralStarts
mod SeveralSteps
mod TickSteps
mod Turning
mod Visiting
pub mod Places
pub mod DeskPlaces
pub mod OneDesk
pub mod Crossing
