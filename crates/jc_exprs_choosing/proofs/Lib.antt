pub mod Chooses
