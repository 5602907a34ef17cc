pub mod Merging
pub mod Telling
