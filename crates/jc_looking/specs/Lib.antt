pub mod Sights
pub mod Members
pub mod Standings
pub mod Scenes
