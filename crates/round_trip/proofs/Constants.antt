-- Types and constants that are written are read again.
pub mod Runs
pub mod Numbers
pub mod Types
pub mod Addresses
pub mod Forms
pub mod Singles
pub mod Constants
