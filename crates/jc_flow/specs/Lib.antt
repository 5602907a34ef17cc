pub mod Marks
pub mod Checked
