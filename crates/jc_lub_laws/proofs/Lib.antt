mod Lists
mod Listed
mod Arguments
mod Beneath
mod Joined
mod Layers
pub mod Homs
pub mod Viewed
pub mod Unique
pub mod Closing
pub mod Held
mod Seen
mod Fitting
