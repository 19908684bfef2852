pub mod Totals
pub mod Closed
pub mod Moving
pub mod Parts
pub mod Suiting
pub mod Spelling
