use Rattle.std.proofs.Common.{◌≡◌, ◌∙◌, suc, Some, ap, sym, subst, slice_get}
use Rattle.std.specs.Option.{option_copied}
use Rattle.block_memory.specs.Answers.{IsMeant}
use Rattle.ir_steps.specs.Results.{Next}
use Rattle.ir_meaning.specs.Models.{block_in, rest_of}
use Rattle.ir_meaning.specs.Mirrors.Outcomes.{IsStepped}
use Rattle.ir_meaning.proofs.Resumed.{head_is}
use Rattle.ir_meaning.proofs.Stacked.{head_step, end_step}
use Rattle.ir_meaning.proofs.steps.run.Goals as goal

pub run_inst-requires-clause-narrow : goal.run_inst-requires-clause-narrow
run_inst-requires-clause-narrow c =
    let p = c.args.p.now in
    let s = c.args.stack.now in
    let mem = c.args.memory.now in
    let given = option_copied c.args.reply in
    let block = c.block_in-block.result.now in
    let is : block_in p s.top.func s.top.block ≡ Some block = cc (c.block_in-block.ensures, c.func.ensures, c.block.ensures) in
    let at = ap (slice_get block.insts) (sym c.place.ensures) ∙ sym c.in-Some.ensures.value in
    c.requires.stands.narrow c.in-Some.inst.now (rest_of (suc s.top.place) (block_in p s.top.func s.top.block)) (head_is p s.top block c.in-Some.inst.now is at)

pub run_inst-requires-clause-meant : goal.run_inst-requires-clause-meant
run_inst-requires-clause-meant c =
    let p = c.args.p.now in
    let s = c.args.stack.now in
    let mem = c.args.memory.now in
    let given = option_copied c.args.reply in
    let block = c.block_in-block.result.now in
    let is : block_in p s.top.func s.top.block ≡ Some block = cc (c.block_in-block.ensures, c.func.ensures, c.block.ensures) in
    let at = ap (slice_get block.insts) (sym c.place.ensures) ∙ sym c.in-Some.ensures.value in
    subst (IsMeant {A = Next}) (head_step p s mem given block c.in-Some.inst.now is at) c.requires.meant

pub run_term-requires-clause-meant : goal.run_term-requires-clause-meant
run_term-requires-clause-meant c =
    let p = c.args.p.now in
    let s = c.args.stack.now in
    let mem = c.args.memory.now in
    let given = option_copied c.args.reply in
    let block = c.block_in-block.result.now in
    let is : block_in p s.top.func s.top.block ≡ Some block = cc (c.block_in-block.ensures, c.func.ensures, c.block.ensures) in
    let at = ap (slice_get block.insts) (sym c.place.ensures) ∙ sym c.in-None.ensures.value in
    subst (IsMeant {A = Next}) (end_step p s mem given block is at) c.requires.meant

pub returns-in-Some : goal.returns-in-Some
returns-in-Some c =
    let p = c.args.p.now in
    let s = c.args.stack.now in
    let mem = c.args.memory.now in
    let given = option_copied c.args.reply in
    let block = c.block_in-block.result.now in
    let is : block_in p s.top.func s.top.block ≡ Some block = cc (c.block_in-block.ensures, c.func.ensures, c.block.ensures) in
    let at = ap (slice_get block.insts) (sym c.place.ensures) ∙ sym c.in-Some.ensures.value in
    subst (IsStepped p c.run_inst.result c.run_inst.new.stack c.run_inst.new.memory mem) (sym (head_step p s mem given block c.in-Some.inst.now is at)) c.run_inst.ensures

pub returns-in-None : goal.returns-in-None
returns-in-None c =
    let p = c.args.p.now in
    let s = c.args.stack.now in
    let mem = c.args.memory.now in
    let given = option_copied c.args.reply in
    let block = c.block_in-block.result.now in
    let is : block_in p s.top.func s.top.block ≡ Some block = cc (c.block_in-block.ensures, c.func.ensures, c.block.ensures) in
    let at = ap (slice_get block.insts) (sym c.place.ensures) ∙ sym c.in-None.ensures.value in
    subst (IsStepped p c.run_term.result c.run_term.new.stack c.run_term.new.memory mem) (sym (end_step p s mem given block is at)) c.run_term.ensures
