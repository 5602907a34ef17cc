pub mod ChainSteps
pub mod FormalSteps
pub mod Growths
pub mod HeadSteps
pub mod Insides
pub mod PartInsides
pub mod PartSteps
