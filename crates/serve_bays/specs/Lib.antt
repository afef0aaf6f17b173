pub mod BayCalls
pub mod Bays
pub mod LaneCalls
pub mod Lanes
pub mod Options
pub mod Served
pub mod Sides
