pub mod Kinds
pub mod Casts
pub mod Bodies
pub mod Heads
pub mod Warnings
