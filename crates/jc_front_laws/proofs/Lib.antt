pub mod Job
pub mod Headers
