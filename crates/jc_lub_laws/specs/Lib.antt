pub mod Standing
pub mod Under
