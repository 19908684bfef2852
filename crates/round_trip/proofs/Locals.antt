-- The names of a written function.
pub mod Texts
pub mod Found
pub mod Distinct
pub mod Still
pub mod Given
pub mod Written
