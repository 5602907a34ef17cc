pub mod LibraryTurns
pub mod Reached
