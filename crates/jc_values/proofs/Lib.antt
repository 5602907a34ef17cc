pub mod Ending
mod Texts
