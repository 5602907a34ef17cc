pub mod FromLast
pub mod Turned
