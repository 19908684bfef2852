use Rattle.std.proofs.Common.{subst}
use Rattle.std.specs.Prelude.{All}
use Rattle.std.proofs.lemmas.List.{take_all}
use Rattle.ir_syntax.specs.Typed.{TypedItem}
use Rattle.ir_check.proofs.Loops.{all_goes}
use Rattle.ir_check.proofs.first_ill_typed.Goals as goal

pub loop-at-preserved : goal.loop-at-preserved
loop-at-preserved c =
    all_goes (TypedItem c.args.items.now) c.args.items.now c.loop-at.at c.index-items-at.result c.loop-at-test.true c.index-items-at.is c.loop-at.invariant (c.in_ok-typed.ensures.0 c.if-not-typed.false)

pub returns : goal.returns
returns c = subst (All (TypedItem c.args.items.now)) (take_all c.loop-at.at c.args.items.now c.loop-at-test.false) c.loop-at.invariant
