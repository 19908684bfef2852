pub mod Answered
pub mod FoundRows
pub mod Inside
pub mod NeededRows
pub mod RowOrder
pub mod Searched
