pub mod Mirrors
pub mod Ordered
