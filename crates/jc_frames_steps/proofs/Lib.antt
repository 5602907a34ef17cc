mod Numbers
mod Arguments
mod Lengths
