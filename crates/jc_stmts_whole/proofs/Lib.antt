pub mod Behind
pub mod Going
pub mod Placing
pub mod Reaching
pub mod Rests
