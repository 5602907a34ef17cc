pub mod Decided
mod Joined
mod Kept
mod Passed
mod Reached
mod Single
mod Ups
