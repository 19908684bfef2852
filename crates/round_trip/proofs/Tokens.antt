-- What is written can be read token by token, and each token stands for what was written.
pub mod Digits
pub mod Quoted
pub mod Parts
pub mod Words
pub mod Constants
pub mod Instructions
pub mod Lines
pub mod Modules
