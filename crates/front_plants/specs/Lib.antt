pub mod Fresh
pub mod MemoryPlant
pub mod MemorySinks
pub mod Noted
pub mod Plants
pub mod Rooms
pub mod Unused
