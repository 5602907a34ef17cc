pub mod Onward
pub mod Ends
pub mod Starts
