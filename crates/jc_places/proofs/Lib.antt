pub mod Beyond
pub mod Turned
