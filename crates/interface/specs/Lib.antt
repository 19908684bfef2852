pub mod Asked
pub mod Masks
pub mod Mirrors
pub mod Names
pub mod Roots
pub mod Summaries
