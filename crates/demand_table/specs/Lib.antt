pub mod Answers
pub mod Closing
pub mod Merging
pub mod Passes
pub mod Seeking
pub mod Ties
