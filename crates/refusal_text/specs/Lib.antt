pub mod Place
pub mod Text
