mod WorkedLeftOuts
pub mod LeastOfBoth
pub mod LeftOutExpressions
pub mod LeftOutForms
pub mod LeftOutRules
pub mod LeftOutStatements
pub mod PlacesOfTokens
