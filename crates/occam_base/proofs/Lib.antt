pub mod FileMaps
pub mod Places
