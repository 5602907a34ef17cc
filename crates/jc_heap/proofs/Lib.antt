pub mod Below
pub mod LoadedElements
pub mod FieldLayouts
pub mod StringPlaces
pub mod Walks
pub mod Closed
pub mod Numbering
pub mod Signing
