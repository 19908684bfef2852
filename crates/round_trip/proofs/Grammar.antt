-- What the grammar keeps of what is written: types, constants, operands and instructions.
pub mod Kept
pub mod Walking
pub mod Goes
pub mod Quiet
pub mod Parts
pub mod Digits
pub mod Words
pub mod Types
pub mod Singles
pub mod Constants
pub mod Operands
pub mod Flags
pub mod Calls
pub mod Values
pub mod Void
pub mod Terminators
pub mod Instructions
