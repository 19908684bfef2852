-- What a phi says of its result.
use Rattle.std.specs.Prelude.{ℕ, map, if◌then◌else◌}
use Rattle.ir_syntax.specs.declared.constant.Operand.{Operand}
use Rattle.ir_syntax.specs.declared.body.Phi.{Phi}
use Rattle.fold_facts.specs.declared.fact.Fact.{Fact}
use Rattle.fold_facts.specs.declared.fact.Fact.TheVariants.{Unreached}
use Rattle.fold_facts.specs.Facts.{join_all}
use Rattle.fold_facts.specs.Assigned.{Assigned, enters}
use Rattle.fold_facts.specs.Operands.{Setting, operand_fact}

-- An entry counts where an edge from its block to that of the phi is reached. Entries for one block are equal.
abbrev pub entry_fact : Setting → Assigned → ℕ → Operand × ℕ → Fact
entry_fact setting a place entry = if enters a entry.1 place then operand_fact setting a.facts entry.0 else Unreached

-- A phi of the block at a place says the join of the entries that count.
abbrev pub phi_fact : Setting → Assigned → ℕ → Phi → Fact
phi_fact setting a place phi = join_all (map (entry_fact setting a place) phi.entries)
