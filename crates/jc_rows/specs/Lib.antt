pub mod Decoded
pub mod Acts
pub mod Laid
