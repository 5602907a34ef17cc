pub mod Chains
pub mod Supertypes
