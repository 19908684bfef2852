pub mod OfType
pub mod Ranges
pub mod SignedTests
pub mod WorkedOutcomes
