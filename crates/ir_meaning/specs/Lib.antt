pub mod Kept
pub mod Models
pub mod Mirrors
