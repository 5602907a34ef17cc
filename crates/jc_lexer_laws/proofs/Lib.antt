mod Calm
mod Decoded
mod Literals
mod Numerals
mod Quoted
mod Slices
mod Steps
mod Tables
pub mod Telling
mod WholeNumbers
