pub mod Onwards
pub mod Readying
pub mod Memory
pub mod Passing
pub mod Alone
