pub mod Spaces
pub mod Index
