use Rattle.std.proofs.Common.{◌∙◌, [], Option, Some, None, ap, sym, subst, if◌then◌else◌}
use Rattle.std.specs.Option.{option_copied}
use Rattle.block_memory.specs.Answers.{IsMeant}
use Rattle.block_memory.specs.Blocks.{MemoryData}
use Rattle.ir_steps.specs.States.{StateData}
use Rattle.ir_steps.specs.Results.{Next, state}
use Rattle.ir_steps.specs.Steps.{frames_step}
use Rattle.ir_meaning.specs.Kept.{IsStepOf}
use Rattle.ir_meaning.specs.Models.{StateModel}
use Rattle.ir_meaning.specs.Mirrors.Outcomes.{left_by}
use Rattle.ir_meaning.specs.Mirrors.Stacks.{kept, stack_of}
use Rattle.ir_meaning.proofs.Answering.{stack_stands, stack_is_meant, step_still}
use Rattle.ir_meaning.proofs.state.step.Goals as goal

pub take_step-stepped-requires-clause-stands : goal.take_step-stepped-requires-clause-stands
take_step-stepped-requires-clause-stands c =
    let p = c.args.p.now in
    let s = c.args.s.now in
    let stack = c.in-Some.stack in
    let fine = ap (λ (m : StateModel). m.failed) (sym c.s.view_is) ∙ c.if-s.false in
    let is = ap (λ (m : StateModel). m.stack) (sym c.s.view_is) ∙ ap kept c.in-Some.is in
    stack_stands p s stack c.is_linked.ensures c.requires.started fine is

pub take_step-stepped-requires-clause-meant : goal.take_step-stepped-requires-clause-meant
take_step-stepped-requires-clause-meant c =
    let p = c.args.p.now in
    let s = c.args.s.now in
    let stack = c.in-Some.stack in
    let fine = ap (λ (m : StateModel). m.failed) (sym c.s.view_is) ∙ c.if-s.false in
    let is = ap (λ (m : StateModel). m.stack) (sym c.s.view_is) ∙ ap kept c.in-Some.is in
    let given = option_copied c.args.reply in
    subst (λ (m : MemoryData). IsMeant {A = Next} (frames_step p m given (stack_of p stack))) (ap (λ (m : StateModel). m.memory) (sym c.s.view_is)) (stack_is_meant p s stack given c.is_linked.ensures c.requires.started fine is)

pub returns-then-ends-clause-still : goal.returns-then-ends-clause-still
returns-then-ends-clause-still c =
    let p = c.args.p.now in
    let s = c.args.s.now in
    let stack = c.in-Some.stack in
    let fine = ap (λ (m : StateModel). m.failed) (sym c.s.view_is) ∙ c.if-s.false in
    let is = ap (λ (m : StateModel). m.stack) (sym c.s.view_is) ∙ ap kept c.in-Some.is in
    let given = option_copied c.args.reply in
    let a = c.in-Ok.stepped in
    let frames = stack_of p c.take_step-stepped.new.stack in
    let mem = c.take_step-stepped.new.memory in
    let end = sym c.ends.ensures ∙ c.if-ends.true in
    let one = subst (λ (m : MemoryData). IsStepOf (frames_step p m given (stack_of p stack)) a (left_by a frames mem) m) (ap (λ (m : StateModel). m.memory) c.s.view_is) c.in-Ok.ensures in
    let two = subst (λ (t : StateData). IsStepOf (frames_step p s.memory given (stack_of p stack)) a t s.memory) (ap (λ b. if b then state [] mem else state frames mem) end) one in
    step_still p s (record { stack = None; memory = mem; firsts = c.s.inside.table; failed = c.s.inside.failed }) stack given a c.requires.started fine is (ap (λ (m : StateModel). m.firsts) c.s.view_is) two

pub returns-else-ends-clause-still : goal.returns-else-ends-clause-still
returns-else-ends-clause-still c =
    let p = c.args.p.now in
    let s = c.args.s.now in
    let stack = c.in-Some.stack in
    let fine = ap (λ (m : StateModel). m.failed) (sym c.s.view_is) ∙ c.if-s.false in
    let is = ap (λ (m : StateModel). m.stack) (sym c.s.view_is) ∙ ap kept c.in-Some.is in
    let given = option_copied c.args.reply in
    let a = c.in-Ok.stepped in
    let frames = stack_of p c.take_step-stepped.new.stack in
    let mem = c.take_step-stepped.new.memory in
    let end = sym c.ends.ensures ∙ c.if-ends.false in
    let one = subst (λ (m : MemoryData). IsStepOf (frames_step p m given (stack_of p stack)) a (left_by a frames mem) m) (ap (λ (m : StateModel). m.memory) c.s.view_is) c.in-Ok.ensures in
    let two = subst (λ (t : StateData). IsStepOf (frames_step p s.memory given (stack_of p stack)) a t s.memory) (ap (λ b. if b then state [] mem else state frames mem) end) one in
    step_still p s (record { stack = kept (Some c.take_step-stepped.new.stack); memory = mem; firsts = c.s.inside.table; failed = c.s.inside.failed }) stack given a c.requires.started fine is (ap (λ (m : StateModel). m.firsts) c.s.view_is) two
