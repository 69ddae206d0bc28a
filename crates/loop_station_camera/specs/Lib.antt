pub mod Answers
pub mod Events
pub mod Keeping
pub mod Leaves
pub mod Saves
