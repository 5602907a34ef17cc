mod Counted
pub mod Appending
pub mod Forming
pub mod Gathering
pub mod Staying
