mod Gathered
mod Powers
pub mod Runs
pub mod FormingReadings
pub mod FormingTypes
pub mod FormingConstants
pub mod FormingOperands
