pub mod Wanting
pub mod Laws
