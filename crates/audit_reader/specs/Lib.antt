pub mod Bodies
pub mod EventLine
pub mod Moments
pub mod Plain
pub use Rattle.event_members.specs.Ranges
