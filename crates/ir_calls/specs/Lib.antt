pub mod Calls
pub mod Mirrors
