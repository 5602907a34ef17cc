pub mod StmtLists
pub mod Catches
pub mod Turning
pub mod Skips
