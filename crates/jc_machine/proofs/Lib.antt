pub mod Units
pub mod Placement
pub mod Running
pub mod Spelling
