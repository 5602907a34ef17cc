mod Grown
mod Indexed
mod Kept
