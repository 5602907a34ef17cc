pub mod MemberReading
pub mod UnitAnswers
pub mod UnitReading
