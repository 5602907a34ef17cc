pub mod States
pub mod Numbers
pub mod Classes
pub mod Layout
pub mod Making
pub mod Erases
