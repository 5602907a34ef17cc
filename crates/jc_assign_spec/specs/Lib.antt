pub mod Marks
pub mod Expressions
pub mod Statements
pub mod Methods
