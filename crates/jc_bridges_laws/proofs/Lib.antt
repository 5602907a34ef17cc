pub mod Keys
pub mod Found
pub mod Leading
