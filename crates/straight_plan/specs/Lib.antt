pub mod Asked
pub mod Folding
pub mod Left
pub mod Residual
