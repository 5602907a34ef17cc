pub mod Framed
pub mod InPlace
pub mod NativeCalls
pub mod Nests
pub mod Receivers
pub mod Rooms
