pub mod InitialParts
mod WorkedInitialBytes
pub mod Copying
pub mod Keeping
pub mod Meant
pub mod Known
pub mod Laying
pub mod LayingParts
pub mod Naming
pub mod Places
pub mod Reading
pub mod Starting
pub mod Writing
mod WorkedAccesses
mod WorkedComparisons
mod WorkedRuns
