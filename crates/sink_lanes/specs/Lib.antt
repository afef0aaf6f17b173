pub mod Lanes
pub mod Rooms
pub mod Ends
pub mod Together
