mod Geps
pub mod FormingInsts
