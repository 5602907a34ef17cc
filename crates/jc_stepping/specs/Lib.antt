pub mod Done
pub mod InPlace
pub mod Lengths
pub mod Makes
pub mod Room
