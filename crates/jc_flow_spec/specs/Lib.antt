pub mod Throwing
pub mod States
pub mod Expressions
pub mod Statements
pub mod Methods
