pub mod Ascending
pub mod Picks
pub mod Placing
