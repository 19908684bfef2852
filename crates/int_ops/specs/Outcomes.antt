-- What the flags of an operation ask for, and the poison that it gives where that doesn't hold (LLVM Language Reference Manual, 'Poison Values').
use Rattle.std.specs.Prelude.{ℕ, Bool, not, ◌||◌, if◌then◌else◌}
use Rattle.int_ops.specs.declared.outcome.Outcome.{Outcome}
use Rattle.int_ops.specs.declared.outcome.Outcome.TheVariants.{Num, Poison}

-- where the flag is set, the fact holds
abbrev pub implies : Bool → Bool → Bool
implies flag fact = not flag || fact

abbrev pub poison_unless : Bool → ℕ → Outcome
poison_unless holds number = if holds then Num number else Poison
