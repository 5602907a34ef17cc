pub mod Standings
pub mod Constraints
pub mod Targets
pub mod Lines
