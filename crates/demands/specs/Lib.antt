pub mod Order
pub mod Names
pub mod Rows
pub mod Demands
pub mod Reading
pub mod Faults
pub mod TotalOrder
