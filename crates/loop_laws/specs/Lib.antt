pub mod Stores
pub mod Laws
pub mod Filmings
pub mod FilmingRuns
