pub mod Cases
pub mod Fields
pub mod Lists
pub mod Rows
mod Locals
