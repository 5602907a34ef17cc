pub mod Selecting
pub mod Bodies
