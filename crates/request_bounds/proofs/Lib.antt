pub mod AgentLemmas
pub mod BoundLemmas
pub mod EventLemmas
pub mod HeadLemmas
pub mod HeaderLemmas
pub mod LimitLemmas
pub mod PathLemmas
pub mod UserLemmas
