pub use Rattle.ir_operands.specs.Operands
pub use Rattle.ir_calls.specs.Calls
pub mod Lines
pub mod Bodies
pub mod Faults
pub mod Mirrors
