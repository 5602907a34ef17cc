pub mod Staying
mod Turning
