pub mod Founds
pub mod Imported
