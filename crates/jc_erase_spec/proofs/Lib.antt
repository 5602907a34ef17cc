pub mod Heaps
pub mod Keeps
pub mod Calls
pub mod Alike
mod Small
