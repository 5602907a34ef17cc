pub mod Marking
pub mod Turns
pub mod Told
