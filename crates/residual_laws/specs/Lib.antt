pub mod Left
pub mod Mapping
pub mod Used
