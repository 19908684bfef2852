pub mod NameLists
pub mod Positions
