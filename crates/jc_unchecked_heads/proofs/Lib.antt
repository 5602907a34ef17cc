pub mod Standing
pub mod Rivals
