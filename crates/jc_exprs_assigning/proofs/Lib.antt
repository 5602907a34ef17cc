mod Assigns
mod Compounds
mod Targets
