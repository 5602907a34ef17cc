pub mod Binaries
pub mod FirstNames
pub mod Entered
pub mod Turned
