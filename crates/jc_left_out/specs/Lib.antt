pub mod LeftOut
pub mod WorkedLeftOut
