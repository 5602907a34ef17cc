pub mod At
pub mod Trees
