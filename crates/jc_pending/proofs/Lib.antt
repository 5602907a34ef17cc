pub mod Halting
pub mod Coherence
pub mod Entering
pub mod Lists
pub mod Idles
