pub mod Counts
pub mod Entries
pub mod Failing
pub mod Files
pub mod Status
pub mod Streams
