pub mod Begun
pub mod Making
pub mod Readied
pub mod Walked
