pub mod Noted
pub mod Seen
pub mod Imports
pub mod Parts
