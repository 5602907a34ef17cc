pub mod Scoped
pub mod Links
