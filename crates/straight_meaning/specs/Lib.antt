pub mod Kept
pub mod Lawful
pub mod Matching
pub mod Run
pub mod State
pub mod Step
pub mod Worked
