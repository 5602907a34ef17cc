mod Knowing
mod Lengths
mod Lifting
mod Parting
mod Ruling
mod Staying
