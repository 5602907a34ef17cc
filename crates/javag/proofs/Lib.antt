pub mod Stages
pub mod Texts
pub mod Works
pub mod Calls
