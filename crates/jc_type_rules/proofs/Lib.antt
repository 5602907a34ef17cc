pub mod Pigeons
pub mod Rowed
