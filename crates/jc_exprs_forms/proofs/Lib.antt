pub mod ByForms
pub mod Walks
