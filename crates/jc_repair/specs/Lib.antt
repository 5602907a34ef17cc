pub mod Repairing
pub mod Looser
