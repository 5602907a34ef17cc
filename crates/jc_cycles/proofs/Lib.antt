pub mod Ranked
pub mod Rowed
