pub mod Layout
pub mod Views
pub mod Rule
pub mod Tells
