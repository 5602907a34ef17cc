pub mod CompareReading
pub mod EffectReading
pub mod ExprAnswers
pub mod ExprReading
pub mod LevelReading
pub mod PostReading
pub mod PrimeReading
pub mod StartReading
