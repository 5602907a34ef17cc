pub mod Running
pub mod Scoping
