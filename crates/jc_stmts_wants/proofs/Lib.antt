pub mod Asking
mod Onward
mod Turning
