pub mod IllTyped
pub mod Incoming
pub mod Scopes
pub mod Suited
pub mod Walks
