-- What the code does step by step, as relations on lists: inner functions have it as their clause, and laws join it to
-- the definitions.
pub mod Held
