pub mod Crossing
pub mod Needing
pub mod Shaping
