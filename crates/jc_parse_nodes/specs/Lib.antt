pub mod Joins
pub mod Nodes
