pub mod Closed
pub mod Raws
