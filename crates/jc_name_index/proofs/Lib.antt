pub mod Padded
pub mod SpacesNoted
pub mod Picked
pub mod Packaged
pub mod Emptiness
