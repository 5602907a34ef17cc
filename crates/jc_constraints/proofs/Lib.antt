pub mod Elements
pub mod Implications
pub mod Aimings
pub mod Lined
