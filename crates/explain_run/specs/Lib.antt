pub mod Desk
pub mod Lines
pub mod Pushing
pub mod RouteLines
pub mod Serving
