pub mod Library
pub mod Stages
