pub mod Going
pub mod Values
pub mod Right
pub mod Bodies
pub mod Firm
