pub mod Chains
pub mod Cuts
pub mod Paces
pub mod Runs
pub mod Shipped
pub mod Sides
pub mod Summaries
pub mod Texts
