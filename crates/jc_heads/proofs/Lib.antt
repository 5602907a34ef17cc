pub mod Joinings
pub mod MembersByParts
pub mod Declared
