mod Finds
pub mod Cores
pub mod Counted
pub mod Insides
pub mod Least
pub mod Opened
pub mod Placed
pub mod Pointwise
pub mod Reified
pub mod Sameness
pub mod Substituted
