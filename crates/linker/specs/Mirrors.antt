-- What the code does step by step, as functions on lists and as what its tables hold: inner functions have it as their
-- clause, and laws join it to the definitions.
pub mod Items
pub mod Marks
pub mod Groups
pub mod Slots
pub mod Rows
