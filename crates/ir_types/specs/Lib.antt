pub mod Layout
pub mod Names
pub mod Nesting
pub mod Scalars
pub mod Walk
