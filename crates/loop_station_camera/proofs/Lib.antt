pub mod EventRuns
pub mod SaveFrames
pub mod FlushRuns
pub mod KeepRuns
pub mod SavePieces
pub mod ReadRuns
pub mod KeepTurns
