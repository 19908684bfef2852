pub mod Reading
pub mod Refusing
pub mod Loading
pub mod Steps
