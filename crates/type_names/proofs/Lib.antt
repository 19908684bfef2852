pub mod Knowing
pub mod Steps
pub mod Fitting
pub mod Passing
pub mod Deciding
