pub mod Suits
pub mod Readings
pub mod Frames
pub mod Views
