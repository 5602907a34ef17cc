mod Apart
pub mod Gating
pub mod Lying
mod Walked
