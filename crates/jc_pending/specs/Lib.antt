pub mod Level
pub mod Values
pub mod Statements
pub mod Loops
pub mod Frames
pub mod Leads
