use Rattle.std.proofs.Common.{sym, subst}
use Rattle.ir_syntax.specs.declared.item.Item.{Item}
use Rattle.demands.specs.Demands.{IsFunctionFor}
use Rattle.std.specs.Prelude.{List, slice_get}
use Rattle.straight_fold.proofs.Reading.{short-place}
use Rattle.straight_fold.proofs.root.root_of.Goals as goal

pub root_in-requires-clause-few : goal.root_in-requires-clause-few
root_in-requires-clause-few c =
    (short-place c.items_of.result.now c.args.place c.args.args.now c.items_of.ensures.straight
    (subst (λ (items : List Item). IsFunctionFor c.args.args.now (slice_get items c.args.place)) (sym c.items_of.ensures.items) c.requires.entry)).0
