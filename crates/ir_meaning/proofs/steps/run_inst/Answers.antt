use Rattle.std.proofs.Common.{List, sym, subst}
use Rattle.std.specs.Option.{option_copied}
use Rattle.ir_syntax.specs.declared.body.Arg.{Arg}
use Rattle.ir_syntax.specs.declared.body.Inst.{Inst}
use Rattle.block_memory.specs.Answers.{IsMeant}
use Rattle.ir_steps.specs.Results.{Next}
use Rattle.ir_steps.specs.Calls as calls
use Rattle.ir_steps.specs.Steps as steps
use Rattle.ir_meaning.specs.Mirrors.Outcomes.{IsStepped}
use Rattle.ir_meaning.specs.Mirrors.Stacks.{point_of}
use Rattle.ir_meaning.proofs.steps.run_inst.Goals as goal

pub call-requires-clause-meant : goal.call-requires-clause-meant
call-requires-clause-meant c =
    let p = c.args.p.now in
    let at = point_of p c.args.stack.now c.args.memory.now in
    let given = option_copied c.args.reply in
    let meant = subst (λ (i : Inst). IsMeant {A = Next} (steps.inst_step p at given i)) c.in-Call.is c.requires.meant in
    subst (λ (args : List Arg). IsMeant {A = Next} (calls.call p at c.in-Call.fn_ty c.in-Call.callee args given)) (sym c.as_slice.ensures) meant

pub returns-in-Call : goal.returns-in-Call
returns-in-Call c =
    let p = c.args.p.now in
    let at = point_of p c.args.stack.now c.args.memory.now in
    let given = option_copied c.args.reply in
    let one = subst (λ (args : List Arg). IsStepped p c.call.result c.call.new.stack c.call.new.memory c.args.memory.now (calls.call p at c.in-Call.fn_ty c.in-Call.callee args given)) c.as_slice.ensures c.call.ensures in
    subst (λ (i : Inst). IsStepped p c.call.result c.call.new.stack c.call.new.memory c.args.memory.now (steps.inst_step p at given i)) (sym c.in-Call.is) one
