pub mod Pieces
pub mod Naming
pub mod Simple
pub mod Expressions
pub mod Statements
pub mod Methods
pub mod Placing
