pub mod ByParts
pub mod Joining
pub mod Parts
