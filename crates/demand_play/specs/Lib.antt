pub mod Cores
pub mod Entries
pub mod History
pub mod Legal
pub mod Mirrors
