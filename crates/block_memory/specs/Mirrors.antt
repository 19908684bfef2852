-- How the code keeps blocks and their bytes, and writes them.
pub mod Keeping
pub mod Laying
pub mod Slots
pub mod Spots
pub mod Writing
