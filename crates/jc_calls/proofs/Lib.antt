pub mod HandlerRows
pub mod Laid
pub mod MethodLines
pub mod OnLine
