pub mod Rests
pub mod Signing
