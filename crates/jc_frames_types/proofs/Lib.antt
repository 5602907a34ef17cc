pub mod Seen
mod Lines
mod Going
mod Swapping
mod Numbering
