pub mod Others
pub mod Prefixes
pub mod Through
pub mod Turns
pub mod Wholes
