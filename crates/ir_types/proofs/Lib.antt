pub mod Extents
pub mod ListSteps
pub mod Naming
pub mod Nestings
pub mod Sent
pub mod Shared
pub mod Walks
pub mod WorkedLayouts
