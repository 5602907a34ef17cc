pub mod Seen
pub mod Flat
