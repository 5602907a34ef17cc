pub mod Gives
pub mod Before
pub mod Bodies
pub mod Faults
pub mod Sorts
