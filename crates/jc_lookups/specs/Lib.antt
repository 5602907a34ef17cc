pub mod Deepened
pub mod FieldMarks
pub mod Interfaces
pub mod Searched
