pub mod SmoothCalls
pub mod SmoothExpressions
pub mod SmoothStatements
pub mod SmoothMeaning
pub mod Unselected
