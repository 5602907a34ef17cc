pub mod Applying
pub mod Parameters
pub mod Specific
pub mod Choosing
pub mod Apart
pub mod Laws
