pub mod Counts
pub mod Form
pub mod Names
pub mod Numbers
pub mod Resolved
pub mod Spelled
