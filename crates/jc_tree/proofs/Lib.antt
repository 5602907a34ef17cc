mod Begun
pub mod Capped
pub mod HeightsOfExpressions
pub mod HeightsOfStatements
pub mod HeightsOfTypes
pub mod OffsetsOfExpressions
pub mod OffsetsOfStatements
pub mod OffsetsOfTypes
mod Opened
