pub mod Further
pub mod Giving
pub mod Growing
pub mod Kinds
pub mod Reach
pub mod Reading
