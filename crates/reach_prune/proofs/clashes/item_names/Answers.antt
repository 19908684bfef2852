use Rattle.std.proofs.Common.{◌∙◌, ap, map}
use Rattle.std.specs.Prelude.{◌||◌}
use Rattle.ir_syntax.specs.FormedBody.{item_name}
use Rattle.name_table.specs.Places.{is_among}
use Rattle.reach_prune.proofs.Clashing.{modules_next}
use Rattle.reach_prune.proofs.clashes.item_names.Goals as goal

pub loop-module-preserved : goal.loop-module-preserved
loop-module-preserved c = λ name.
    modules_next name c.args.modules.now c.loop-module.module-index c.module-item.result c.loop-module.names c.add_items.new.names c.loop-module-test.true c.module-item.is (c.loop-module.invariant name)
    (c.in_ok-add_items.ensures name ∙ ap (λ l. is_among name c.loop-module.names || is_among name (map item_name l)) c.as_slice.ensures)
