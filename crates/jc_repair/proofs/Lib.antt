pub mod Repaired
pub mod Upward
