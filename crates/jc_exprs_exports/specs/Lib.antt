pub mod Captured
pub mod Formed
pub mod Leading
pub mod Library
pub mod Mention
pub mod Opening
pub mod Types
pub mod Trees
