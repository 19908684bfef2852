pub mod Items
pub mod Modules
pub mod Spelled
pub mod Mirrors
