pub mod Behind
pub mod CastLayers
pub mod FormsByParts
pub mod Named
