pub mod Bounds
pub mod Leading
pub mod Legals
