use Rattle.std.proofs.Common.{drop}
use Rattle.straight_leave.specs.Numbers.{numbered}
use Rattle.straight_leave.specs.Rewritten.{new_arg}
use Rattle.straight_leave.proofs.Kept.{kept_all}
use Rattle.straight_leave.proofs.calls.left_args.Goals as goal

pub returns : goal.returns
returns c =
    let site = c.args.site.now in
    kept_all (new_arg (numbered site.whole site.pattern.now site.numbers.now)) c.loop-k.left c.args.pattern.now (drop c.loop-k.k c.args.pattern.now) c.args.args.now c.loop-k.k
    c.loop-k-test.false c.loop-k.invariant
