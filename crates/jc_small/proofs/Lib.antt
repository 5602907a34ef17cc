pub mod ReadTokens
pub mod Short
pub mod Quiet
pub mod Standing
pub mod MainRuns
pub mod Sameness
pub mod Fits
