pub mod Viewing
pub mod Signatures
pub mod Overriding
