use Rattle.std.proofs.Common.{◌∙◌, [], ◌∷◌, ap}
use Rattle.std.specs.Prelude.{◌||◌}
use Rattle.name_table.specs.Places.{is_among}
use Rattle.reach_prune.proofs.Clashing.{names_added, items_next}
use Rattle.reach_prune.proofs.clashes.add_items.Goals as goal

pub loop-item-preserved : goal.loop-item-preserved
loop-item-preserved c = λ name.
    items_next name c.args.items.now c.loop-item.item-index c.item-item.result c.args.names.now c.loop-item.names c.add.new.self c.loop-item-test.true c.item-item.is (c.loop-item.invariant name)
    (names_added name c.name_of.result.now c.loop-item.names c.add.new.self c.in_ok-add.field-0 c.in_ok-add.ensures.ok ∙ ap (λ n. is_among name c.loop-item.names || is_among name (n ∷ [])) c.name_of.ensures)
