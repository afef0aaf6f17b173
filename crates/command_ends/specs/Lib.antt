pub mod Adapters
pub mod Ports
pub mod Status
pub mod Why
