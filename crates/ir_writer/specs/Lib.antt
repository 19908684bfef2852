pub mod Names
pub mod Words
pub mod Constants
pub mod Instructions
pub mod Modules
pub mod Ranges
