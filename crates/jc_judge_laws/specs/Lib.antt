pub mod Leftmost
pub mod Hierarchy
