pub mod Stripping
pub mod Ups
