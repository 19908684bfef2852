mod One
mod Built
mod Counted
mod Lined
pub use Rattle.ir_operands.proofs.FormingReadings
pub use Rattle.ir_operands.proofs.FormingConstants
pub use Rattle.ir_operands.proofs.FormingTypes
pub mod FormingNames
pub mod FormingLines
pub mod FormingBodies
