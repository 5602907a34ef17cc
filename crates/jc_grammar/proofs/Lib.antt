pub mod Begun
mod Framing
mod Worked
pub mod Framed
pub mod FramedExpressions
pub mod FramedParts
pub mod FramedStatements
pub mod FramedTypes
pub mod Laws
pub mod ShapesOfExpressions
pub mod ShapesOfStatements
pub mod Stands
pub mod TokensOfExpressions
pub mod TokensOfStatements
pub mod TokensOfTypes
