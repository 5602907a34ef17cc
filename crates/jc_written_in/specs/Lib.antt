pub mod Writings
pub mod Bodies
pub mod Namings
