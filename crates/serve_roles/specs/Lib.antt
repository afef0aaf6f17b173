pub mod Doors
pub mod Ends
pub mod Ready
pub mod Roles
pub mod Rooms
