pub mod Bays
pub mod Rule
pub mod Ends
pub mod Homes
pub mod Lanes
pub mod Queues
