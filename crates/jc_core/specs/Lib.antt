pub mod Memory
pub mod Ran
pub mod States
