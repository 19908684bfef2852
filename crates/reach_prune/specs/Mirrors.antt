pub mod Members
pub mod Noting
pub mod Places
pub mod Shown
pub mod Split
pub mod Taken
