pub mod Signs
pub mod Spelled
pub mod Tokens
pub mod Texts
pub mod Written
pub mod Mirrors
