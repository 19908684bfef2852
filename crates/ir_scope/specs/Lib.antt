pub mod Runs
pub mod Integers
pub mod Scopes
pub mod Types
pub mod Doubled
pub mod Mirrors
