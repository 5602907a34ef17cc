pub mod Forms
pub mod Greatest
pub mod Below
pub mod Apart
