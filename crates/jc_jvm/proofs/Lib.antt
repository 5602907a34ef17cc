pub mod Units
pub mod Finds
