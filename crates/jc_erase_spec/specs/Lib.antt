pub mod Naming
pub mod Trees
pub mod Meeting
pub mod Small
