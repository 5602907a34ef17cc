pub mod Descriptors
pub mod Bridging
pub mod Entering
