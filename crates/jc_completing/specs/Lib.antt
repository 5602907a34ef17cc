pub mod Catching
pub mod Skipping
