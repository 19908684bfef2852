use Rattle.std.proofs.Common.{◌∙◌, ap, bytes_eq, List, ℕ}
use Rattle.indexmap.specs.IndexSet.{insert_key}
use Rattle.fixed_point.proofs.FoundRows.{adds_more}
use Rattle.fixed_point.proofs.search.add_all.Goals as goal

pub loop-row-preserved : goal.loop-row-preserved
loop-row-preserved c =
    adds_more _ _ c.loop-row.found.keys _ _ c.row-item.result c.loop-row-test.true c.loop-row.invariant
    (c.in_ok-insert.ensures.keys ∙ ap (λ (row : List ℕ). insert_key bytes_eq c.loop-row.found.keys row) c.row-item.is)
