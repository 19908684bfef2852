pub mod Edges
pub mod Expander
pub mod Expanding
pub mod Ordered
pub mod Shown
pub mod Solving
