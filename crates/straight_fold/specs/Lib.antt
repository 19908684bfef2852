pub mod Calls
pub mod Expansion
pub mod Facts
pub mod Items
