pub mod Ages
pub mod Include
pub mod Objects
pub mod Tables
