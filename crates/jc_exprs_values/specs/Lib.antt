pub mod Noted
pub mod Chosen
