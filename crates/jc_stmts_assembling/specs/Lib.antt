pub mod Heads
pub mod Flat
