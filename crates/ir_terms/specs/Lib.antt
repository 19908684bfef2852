pub mod Terms
pub mod Mirrors
