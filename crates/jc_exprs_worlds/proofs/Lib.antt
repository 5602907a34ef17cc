mod Appending
pub mod Told
