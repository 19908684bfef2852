pub mod Bypass
pub mod FarUses
pub mod FirstIndefinite
pub mod Spreading
