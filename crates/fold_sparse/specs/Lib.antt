pub mod Bound
pub mod Groups
pub mod Looks
pub mod Solving
pub mod Planned
pub mod Looking
