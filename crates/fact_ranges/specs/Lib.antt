pub use Rattle.event_members.specs.Ranges
pub mod InRange
