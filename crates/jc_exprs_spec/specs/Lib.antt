pub mod Calls
pub mod Creations
pub mod Typing
