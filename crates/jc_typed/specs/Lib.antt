pub mod Trees
pub mod Parts
pub mod Bulk
pub mod Copies
