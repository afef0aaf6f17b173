pub mod Pace
pub mod Rounds
pub mod Standing
