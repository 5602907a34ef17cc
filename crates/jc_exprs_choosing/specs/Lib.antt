pub mod Breaking
pub mod Choosing
