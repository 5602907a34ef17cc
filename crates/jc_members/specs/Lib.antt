pub mod Below
pub mod Fixed
pub mod Listing
pub mod Named
pub mod Supertypes
pub mod Walking
