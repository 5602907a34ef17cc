pub mod Plans
pub mod Courses
pub mod Assembling
pub mod Bodies
pub mod Typed
