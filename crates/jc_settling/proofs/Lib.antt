pub mod Under
pub mod Rounds
pub mod Listed
pub mod Gathered
pub mod Supers
pub mod Stepping
