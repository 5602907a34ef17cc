pub mod Staying
mod Wanting
