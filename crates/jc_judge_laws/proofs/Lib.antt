pub mod Decides
pub mod Faulted
pub mod Flat
pub mod Grounded
pub mod StrictPaths
pub mod Viewed
