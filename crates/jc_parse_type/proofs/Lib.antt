pub mod CodeSteps
pub mod TypeForms
pub mod TypePlaces
