mod Firsts
mod Folds
mod Signs
pub mod Staying
mod Steps
