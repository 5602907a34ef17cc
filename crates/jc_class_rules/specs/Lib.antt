pub mod Climbing
pub mod Grouping
pub mod Lasting
