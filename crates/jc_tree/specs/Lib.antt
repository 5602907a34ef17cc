pub mod Heights
pub mod Offsets
