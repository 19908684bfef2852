pub mod Places
pub mod Mirrors
