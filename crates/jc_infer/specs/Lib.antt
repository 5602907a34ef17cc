pub mod Formals
pub mod Naming
pub mod Steps
pub mod Asked
