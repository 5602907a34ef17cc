pub mod WrotesByParts
pub mod Told
pub mod Counting
pub mod Sighted
pub mod Placed
pub mod Turns
