pub mod UsesByParts
pub mod StatementsByParts
pub mod MembersByParts
pub mod Placed
pub mod Joinings
pub mod Declared
