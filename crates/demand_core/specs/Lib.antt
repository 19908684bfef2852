pub mod Needed
pub mod Row
