pub mod AnnotationForms
pub mod Bools
pub mod ExprForms
pub mod FormalForms
pub mod HeadForms
pub mod ModifierForms
pub mod PartForms
pub mod Rows
