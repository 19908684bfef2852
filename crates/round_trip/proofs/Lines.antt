-- Each line of a body that is written is read again.
pub mod Words
pub mod Aligns
pub mod Calls
pub mod Flags
pub mod Given
pub mod Instructions
pub mod Operands
pub mod Names
pub mod Terminators
pub mod WholeTypes
pub mod Lines
