pub mod Events
pub mod Runs
pub mod Conforming
pub mod Worlds
pub mod Tiny
pub mod Following
pub mod WorkedRuns
pub mod Mirrors
