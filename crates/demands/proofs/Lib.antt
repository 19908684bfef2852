pub mod Bits
pub mod Texts
pub mod RowReading
pub mod Apart
pub mod DemandReading
pub mod SameDemand
