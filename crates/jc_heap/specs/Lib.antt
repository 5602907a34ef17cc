pub mod Layouts
pub mod Strings
pub mod Supers
pub mod Above
pub mod Named
pub mod Signatures
pub mod Special
