pub mod Steps
pub mod Nows
pub mod Laws
