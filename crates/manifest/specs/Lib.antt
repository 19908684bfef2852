pub mod Names
pub mod Json
pub mod Manifest
pub mod Reading
