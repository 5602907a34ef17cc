pub mod Ranges
pub mod Placement
pub mod SameRows
