pub mod Patches
