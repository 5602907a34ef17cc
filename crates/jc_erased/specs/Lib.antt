pub mod Programs
pub mod Selecting
pub mod Calls
pub mod Steps
pub mod Expressions
pub mod Statements
pub mod Classes
pub mod Meaning
