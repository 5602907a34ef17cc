pub mod Above
pub mod Renaming
pub mod Sites
pub mod Constructors
pub mod Laws
