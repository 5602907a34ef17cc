pub mod Acted
pub mod Takings
