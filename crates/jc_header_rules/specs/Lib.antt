pub mod Places
pub mod Types
pub mod Results
pub mod Headers
pub mod Inheriting
pub mod Checked
pub mod Clashes
