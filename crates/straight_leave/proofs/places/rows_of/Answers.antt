use Rattle.std.proofs.Common.{◌∙◌, ap}
use Rattle.straight_leave.specs.Places.{row_of}
use Rattle.straight_leave.proofs.RowPlaces.{inserted}
use Rattle.straight_leave.proofs.places.rows_of.Goals as goal

pub loop-cut-preserved : goal.loop-cut-preserved
loop-cut-preserved c =
    inserted c.args.plan.now c.loop-cut.cut-index c.cut-item.result c.loop-cut.rows.keys c.insert.new.self.keys c.in_ok-row.row c.loop-cut.invariant c.loop-cut-test.true
    c.cut-item.is (c.in_ok-row.ensures ∙ ap (λ pattern. row_of (record { place = c.cut-item.result.ask.place; pattern = pattern })) c.items.ensures.items) c.in_ok-insert.ensures.keys
    c.requires.distinct
