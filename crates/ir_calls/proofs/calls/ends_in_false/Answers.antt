use Rattle.std.proofs.Common.{◌∙◌, sym}
use Rattle.ir_calls.proofs.Lasts.{last_ends}
use Rattle.ir_calls.proofs.calls.ends_in_false.Goals as goal

pub returns-in-Some : goal.returns-in-Some
returns-in-Some c = c.is_false.ensures ∙ last_ends c.args.args.now c.in-Some.arg.now c.in-Some.ensures.value
