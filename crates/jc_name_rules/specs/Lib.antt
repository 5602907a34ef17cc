pub mod Singles
pub mod Opened
pub mod Numbers
pub mod Sighted
pub mod Cycles
pub mod HeadTypes
