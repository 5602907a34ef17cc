mod UsesWritten
mod Told
