pub mod OneMore
pub mod Ordered
