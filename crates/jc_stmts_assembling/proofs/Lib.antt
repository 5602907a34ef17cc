pub mod ByForm
pub mod Elements
pub mod Lists
pub mod Loops
