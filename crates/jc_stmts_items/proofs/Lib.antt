pub mod Gone
pub mod Through
pub mod Within
