pub mod Shows
pub mod Outcomes
