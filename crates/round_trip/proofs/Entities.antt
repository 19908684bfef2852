-- What is written of a module splits into entities of the grammar: blocks, variables, functions, all items.
pub mod Names
pub mod Steps
pub mod Plain
pub mod Heads
pub mod Lines
pub mod Bodies
pub mod Functions
pub mod Variables
pub mod Items
pub mod Split
pub mod Modules
