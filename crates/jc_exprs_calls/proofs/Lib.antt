pub mod Asks
pub mod Callings
pub mod Creates
pub mod Finds
pub mod Gating
pub mod Receives
