pub mod Takings
pub mod Knowns
