pub mod Forms
pub mod Walking
