pub mod Beginnings
pub mod Closing
pub mod HeadCode
pub mod MemberCode
pub mod UnitCode
