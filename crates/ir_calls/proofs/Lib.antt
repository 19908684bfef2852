mod Lasts
pub mod FormingCalls
