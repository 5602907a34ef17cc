pub mod Alike
pub mod Calling
