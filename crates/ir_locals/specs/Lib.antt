pub mod Locals
pub mod Adding
