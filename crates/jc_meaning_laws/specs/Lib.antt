pub mod FirstParts
