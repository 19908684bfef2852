-- What the code does step by step, as functions on lists.
pub mod Numbering
