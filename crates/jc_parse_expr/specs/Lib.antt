pub mod After
pub mod BinaryLevels
pub mod Measuring
pub mod Nodes
pub mod PrimeCode
pub mod SpecialCode
