pub mod Cycles
pub mod Edges
pub mod Mirrors
pub mod Searching
