pub mod Mirrors
pub mod Numbers
pub mod Told
pub mod Words
