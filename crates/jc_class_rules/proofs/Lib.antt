pub mod Climbed
pub mod Firsts
pub mod Grouped
pub mod Joined
pub mod Lasting
