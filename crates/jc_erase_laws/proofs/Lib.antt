pub mod Types
pub mod Made
pub mod Called
pub mod Expressed
pub mod Stated
pub mod Kept
