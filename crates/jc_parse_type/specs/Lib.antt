pub mod TypeAnswers
pub mod TypeReading
