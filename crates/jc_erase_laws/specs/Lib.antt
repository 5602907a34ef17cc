pub mod Firm
pub mod Theorem
