pub mod Programs
pub mod Parts
