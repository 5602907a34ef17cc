mod Locals
mod Owning
mod Walked
