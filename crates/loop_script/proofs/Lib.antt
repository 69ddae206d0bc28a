pub mod Words
pub mod Numerals
pub mod FirstLine
pub mod SessionLaws
pub mod DeskCalls
pub mod Reopenings
