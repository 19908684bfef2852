pub mod Chosen
pub mod Folded
pub mod Listed
pub mod Once
