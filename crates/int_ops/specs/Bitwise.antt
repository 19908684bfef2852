-- Operations bit by bit (LLVM Language Reference Manual, 'and' Instruction, 'or' Instruction, 'xor' Instruction).
use Rattle.std.specs.Prelude.{ℕ, Bool, ◌==◌, bit_and, bit_or, bit_xor}
use Rattle.int_ops.specs.declared.outcome.Outcome.{Outcome}
use Rattle.int_ops.specs.declared.outcome.Outcome.TheVariants.{Num}
use Rattle.int_ops.specs.Outcomes.{implies, poison_unless}

abbrev pub and_outcome : ℕ → ℕ → Outcome
and_outcome a b = Num (bit_and a b)

-- with `disjoint` no bit is set in both operands
abbrev pub or_outcome : Bool → ℕ → ℕ → Outcome
or_outcome disjoint a b = poison_unless (implies disjoint (bit_and a b == 0)) (bit_or a b)

abbrev pub xor_outcome : ℕ → ℕ → Outcome
xor_outcome a b = Num (bit_xor a b)
