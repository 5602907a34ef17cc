pub mod Mapped
pub mod Weights
pub mod Erased
