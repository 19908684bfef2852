pub mod Leaving
pub mod Mirrors
pub mod Needs
pub mod Pieces
pub mod Residual
