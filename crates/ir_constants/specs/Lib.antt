pub mod Offsets
pub mod Constants
pub mod Mirrors
