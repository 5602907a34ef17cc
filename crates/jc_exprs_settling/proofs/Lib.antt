mod Choosing
mod Settles
