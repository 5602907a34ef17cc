pub mod Short
pub mod Beating
pub mod Listed
pub mod Decides
