use Rattle.std.proofs.Common.{ℕ, List, sym, subst}
use Rattle.table_rule.specs.Layout.{Has}
use Rattle.table_rows.proofs.pairs.insert_child.Goals as goal

pub returns-clause-claimed : goal.returns-clause-claimed
returns-clause-claimed c = subst (λ (z : List (ℕ × ℕ)). (k : ℕ) × Has z (c.args.parent.place, k)) (sym c.insert.ensures.later.claims) c.requires.claimed
