pub mod Conforming
