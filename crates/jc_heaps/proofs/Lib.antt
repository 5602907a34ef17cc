pub mod Plain
pub mod SmoothHeaps
pub mod Erases
