pub mod Insts
pub mod Mirrors
