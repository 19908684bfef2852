-- Definitions that inner functions have as their clauses.
pub mod Entering
pub mod Filling
pub mod Playing
