pub mod Entered
pub mod Forms
pub mod Readings
