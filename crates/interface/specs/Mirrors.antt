pub mod Ranks
pub mod Seen
