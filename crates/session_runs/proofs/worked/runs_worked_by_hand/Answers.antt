use Rattle.std.proofs.Common.{refl}
use denote.Hole.Carrier as carrier
use Rattle.ir_syntax.specs.declared.constant.Const as constant
use Rattle.int_ops.specs.Comparisons.{icmp_holds}
use Rattle.int_ops.specs.Binary.{bin_outcome}
use Rattle.session_runs.proofs.worked.runs_worked_by_hand.Goals as goal

pub returns-clause-finished : goal.returns-clause-finished
unfolding icmp_holds bin_outcome constant.out-Const carrier.out
returns-clause-finished c = refl

pub returns-clause-just_finished : goal.returns-clause-just_finished
unfolding icmp_holds bin_outcome constant.out-Const carrier.out
returns-clause-just_finished c = refl

pub returns-clause-running : goal.returns-clause-running
unfolding icmp_holds bin_outcome constant.out-Const carrier.out
returns-clause-running c = refl

pub returns-clause-poison : goal.returns-clause-poison
unfolding icmp_holds bin_outcome constant.out-Const carrier.out
returns-clause-poison c = refl

pub returns-clause-undefined : goal.returns-clause-undefined
unfolding icmp_holds bin_outcome constant.out-Const carrier.out
returns-clause-undefined c = refl

pub returns-clause-ended : goal.returns-clause-ended
unfolding icmp_holds bin_outcome constant.out-Const carrier.out
returns-clause-ended c = refl

pub returns-clause-freed : goal.returns-clause-freed
unfolding icmp_holds bin_outcome constant.out-Const carrier.out
returns-clause-freed c = refl

pub returns-clause-waiting : goal.returns-clause-waiting
unfolding icmp_holds bin_outcome constant.out-Const carrier.out
returns-clause-waiting c = refl

pub returns-clause-not_asked : goal.returns-clause-not_asked
unfolding icmp_holds bin_outcome constant.out-Const carrier.out
returns-clause-not_asked c = refl

pub returns-clause-bad_reply : goal.returns-clause-bad_reply
unfolding icmp_holds bin_outcome constant.out-Const carrier.out
returns-clause-bad_reply c = refl

pub returns-clause-again : goal.returns-clause-again
unfolding icmp_holds bin_outcome constant.out-Const carrier.out
returns-clause-again c = refl

pub returns-clause-no_step_between : goal.returns-clause-no_step_between
unfolding icmp_holds bin_outcome constant.out-Const carrier.out
returns-clause-no_step_between c = refl
