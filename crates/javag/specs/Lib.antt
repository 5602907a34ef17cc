pub mod Closing
pub mod Objects
pub mod Causes
