pub mod Depths
pub mod FieldLines
pub mod ParameterSorts
pub mod SlotLines
pub mod Searching
