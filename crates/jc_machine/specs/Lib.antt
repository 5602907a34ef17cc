pub mod Rows
pub mod Code
pub mod Places
pub mod Names
pub mod Stacked
pub mod Table
pub mod Start
pub mod Runs
