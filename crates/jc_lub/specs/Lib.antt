pub mod Uncaptured
pub mod Columns
pub mod Lubs
pub mod Distinct
