pub mod TypeNames
pub mod Written
pub mod Learning
