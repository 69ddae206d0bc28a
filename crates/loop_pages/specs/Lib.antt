pub mod Place
pub mod Words
pub mod Holders
pub mod Claims
