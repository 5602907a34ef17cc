mod Stacking
mod Unnamed
