pub mod Slots
pub mod Typed
