use Rattle.std.proofs.Common.{sym, ap, ◌∙◌}
use Rattle.std.proofs.lemmas.List.{drop_all}
use Rattle.ir_check.specs.Incoming.{with_blocks}
use Rattle.ir_check.proofs.Edging.{are_incoming}
use Rattle.ir_check.proofs.incoming.incoming_of.Goals as goal

pub returns : goal.returns
returns c = are_incoming c.args.blocks.now c.loop-from.incoming (ap (with_blocks c.loop-from.incoming c.loop-from.from) (sym (drop_all c.loop-from.from c.args.blocks.now c.loop-from-test.false)) ∙ c.loop-from.invariant)
