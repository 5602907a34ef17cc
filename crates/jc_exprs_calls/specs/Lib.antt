pub mod Calling
pub mod Creating
pub mod Laws
pub mod Placing
pub mod Receivers
