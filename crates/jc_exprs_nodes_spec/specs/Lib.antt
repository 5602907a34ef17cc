pub mod Told
pub mod Typeds
pub mod Gates
