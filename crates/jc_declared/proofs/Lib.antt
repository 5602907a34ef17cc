pub mod Behind
pub mod Turns
