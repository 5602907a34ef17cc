pub mod Rows
pub mod Converting
pub mod Casting
pub mod Steps
