use Rattle.demand_table.proofs.Fresh.{fresh_invariant}
use Rattle.demand_table.proofs.opening.pass_of.Goals as goal

pub invariant_of-result : goal.invariant_of-result
invariant_of-result c = fresh_invariant _ c.args.workers c.args.worker _ _ c.requires.fresh c.requires.words c.requires.few.0 c.requires.few.1 (c.in_ok-found.ensures.items_if_clones_equal (λ y h. h))
