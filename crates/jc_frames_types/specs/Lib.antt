pub mod Names
pub mod Items
pub mod Indexed
pub mod States
pub mod Taken
