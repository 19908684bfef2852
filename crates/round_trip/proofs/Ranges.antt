-- A module that a text of bytes spells has the numbers of the machine.
pub mod Escapes
pub mod Texts
pub mod Kept
pub mod Types
pub mod Constants
pub mod Lines
pub mod Bodies
pub mod Items
pub mod Whole
