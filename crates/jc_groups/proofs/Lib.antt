pub mod Padded
pub mod Grouped
pub mod Told
