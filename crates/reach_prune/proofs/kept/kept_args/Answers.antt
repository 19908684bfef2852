use Rattle.std.proofs.Common.{◌∙◌, [], ◌∷◌, ◌++◌, ap, map}
use Rattle.std.specs.Prelude.{if◌then◌else◌}
use Rattle.demands.specs.Names.{is_unknown}
use Rattle.ir_syntax.specs.Mapped.{map_arg}
use Rattle.interface.specs.Masks.{chosen}
use Rattle.winnowed_form.specs.Bodies.{written_operand}
use Rattle.reach_prune.specs.Mirrors.Shown.{shown_setting}
use Rattle.reach_prune.proofs.Choosing.{chosen_next, chosen_whole}
use Rattle.reach_prune.proofs.kept.kept_args.Goals as goal

pub loop-k-preserved : goal.loop-k-preserved
loop-k-preserved c =
    let f = map_arg (written_operand (shown_setting c.args.w.now)) in
    chosen_next f (map is_unknown c.args.items.now) c.args.args.now c.loop-k.made c.add_arg.new.made (map f (chosen (map is_unknown c.args.items.now) c.args.args.now)) c.loop-k.k c.index-args-k.result c.loop-k-test.true c.index-args-k.is c.loop-k.invariant
    (c.in_ok-add_arg.ensures ∙ ap (λ b. c.loop-k.made ++ (if b then f c.index-args-k.result ∷ [] else [])) c.is_open.ensures)

pub returns : goal.returns
returns c =
    let f = map_arg (written_operand (shown_setting c.args.w.now)) in
    chosen_whole f (map is_unknown c.args.items.now) c.args.args.now c.loop-k.made (map f (chosen (map is_unknown c.args.items.now) c.args.args.now)) c.loop-k.k c.loop-k-test.false c.loop-k.invariant
