pub mod Placing
pub mod Measuring
pub mod Numbering
pub mod Runs
pub mod Typing
pub mod Equal
