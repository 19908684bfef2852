pub mod Linking
pub mod Mirrors
