pub mod Leading
pub mod Checked
