use Rattle.std.proofs.Common.{◌∙◌, ap, bytes_eq, List, ℕ}
use Rattle.indexmap.specs.IndexSet.{insert_key}
use Rattle.demand_play.proofs.Sets.{set_none, set_more}
use Rattle.demand_play.proofs.table.set_of.Goals as goal

pub loop-row-init : goal.loop-row-init
loop-row-init c = set_none _ c.new-found.ensures.empty

pub loop-row-preserved : goal.loop-row-preserved
loop-row-preserved c =
    set_more c.loop-row.found.keys _ _ _ c.row-item.result c.loop-row-test.true c.loop-row.invariant
    (c.in_ok-insert.ensures.keys ∙ ap (λ (row : List ℕ). insert_key bytes_eq c.loop-row.found.keys row) c.row-item.is)
