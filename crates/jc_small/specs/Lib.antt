pub mod Small
pub mod Meaning
pub mod Lexemes
pub mod Parse
pub mod ClassOf
pub mod Same
