pub mod ByParts
pub mod Joining
