pub mod formers
pub mod Lines
pub mod Rules
pub mod Texts
