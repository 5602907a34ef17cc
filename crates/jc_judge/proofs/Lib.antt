pub mod Finds
pub mod Heights
pub mod ShortPaths
