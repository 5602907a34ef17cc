pub mod Ending
pub mod Filling
pub mod Lasting
pub mod Resuming
pub mod Scopes
pub mod Seeing
