pub mod Begins
pub mod Exchanges
pub mod Makers
pub mod Offered
pub mod Sinks
