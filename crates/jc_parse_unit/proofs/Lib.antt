pub mod Contextual
pub mod Elses
pub mod Filing
pub mod Heighted
pub mod MemberInsides
pub mod Moded
pub mod Tails
pub mod UnitTurns
