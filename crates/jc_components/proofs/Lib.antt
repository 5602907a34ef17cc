pub mod Walks
pub mod Cycles
pub mod Marks
