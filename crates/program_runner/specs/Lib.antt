pub mod Arguments
pub mod Ending
pub mod Lines
pub mod Mirrors
pub mod Running
pub mod TinyRuns
