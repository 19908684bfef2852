pub mod Winnowing
