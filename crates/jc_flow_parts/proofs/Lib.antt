pub mod FromLast
pub mod Labels
pub mod Fronts
