pub mod Appending
pub mod Prefixes
pub mod Named
pub mod ValuesByParts
pub mod Growing
pub mod Settled
pub mod Chained
