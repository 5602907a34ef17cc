pub mod Line
pub mod Job
pub mod Command
pub mod Values
