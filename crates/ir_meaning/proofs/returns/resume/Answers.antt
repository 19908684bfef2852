use Rattle.std.proofs.Common.{◌≡◌, ◌∙◌, ◌∷◌, ap, sym, subst, Some, None, Option, slice_get, List}
use Rattle.ir_syntax.specs.declared.symbol.Sym.{Sym}
use Rattle.block_memory.specs.declared.value.Val.{Val}
use Rattle.block_memory.specs.Answers.{Gives}
use Rattle.ir_steps.specs.Results.{went}
use Rattle.ir_steps.specs.Returns as returns
use Rattle.ir_meaning.specs.Models.{FrameData, block_in, frame_of}
use Rattle.ir_meaning.proofs.Resumed.{Resumes, waits_in_block, waits_at_inst, waits_with_slot, resumed_with, resumed_without}
use Rattle.ir_meaning.proofs.returns.resume.Goals as goal

pub block_in-block-requires : goal.block_in-block-requires
block_in-block-requires c = rw (c.func.ensures, c.block.ensures) (waits_in_block c.args.p.now c.args.frame.now c.args.returned c.requires)

pub pass_with-requires-clause-slot : goal.pass_with-requires-clause-slot
pass_with-requires-clause-slot c =
    let p = c.args.p.now in
    let f = c.args.frame.now in
    let block = c.block_in-block.result.now in
    let is : block_in p f.func f.block ≡ Some block = cc (c.block_in-block.ensures, c.func.ensures, c.block.ensures) in
    let at = ap (slice_get block.insts) (sym c.place.ensures) ∙ sym c.in-Some.ensures.value in
    let meant = subst (Resumes p f) c.in-Some-returned.is c.requires in
    waits_with_slot p f c.in-Some-returned.value block c.in-Some.field-0.now meant is at

pub unreachable-requires : goal.unreachable-requires
unreachable-requires c =
    let p = c.args.p.now in
    let f = c.args.frame.now in
    let block = c.block_in-block.result.now in
    let is : block_in p f.func f.block ≡ Some block = cc (c.block_in-block.ensures, c.func.ensures, c.block.ensures) in
    let at = ap (slice_get block.insts) (sym c.place.ensures) ∙ sym c.in-None.ensures.value in
    waits_at_inst p f c.args.returned block c.requires is at

pub returns-in-Some-returned : goal.returns-in-Some-returned
returns-in-Some-returned c below mem =
    let p = c.args.p.now in
    let f = c.args.frame.now in
    let block = c.block_in-block.result.now in
    let is : block_in p f.func f.block ≡ Some block = cc (c.block_in-block.ensures, c.func.ensures, c.block.ensures) in
    let at = ap (slice_get block.insts) (sym c.place.ensures) ∙ sym c.in-Some.ensures.value in
    let meant = subst (Resumes p f) c.in-Some-returned.is c.requires in
    ap (λ r. returns.resume (frame_of p f) below mem r (frame_of p f).rest) c.in-Some-returned.is
    ∙ resumed_with p f c.in-Some-returned.value block c.in-Some.field-0.now meant is at below mem
    ∙ ap (λ (g : FrameData). Gives (went (frame_of p g ∷ below) mem)) (sym c.pass_with.ensures)

pub returns-in-None-returned : goal.returns-in-None-returned
returns-in-None-returned c below mem =
    let p = c.args.p.now in
    let f = c.args.frame.now in
    let block = c.block_in-block.result.now in
    let is : block_in p f.func f.block ≡ Some block = cc (c.block_in-block.ensures, c.func.ensures, c.block.ensures) in
    let at = ap (slice_get block.insts) (sym c.place.ensures) ∙ sym c.in-Some.ensures.value in
    let meant = subst (Resumes p f) c.in-None-returned.is c.requires in
    ap (λ r. returns.resume (frame_of p f) below mem r (frame_of p f).rest) c.in-None-returned.is
    ∙ resumed_without p f block c.in-Some.field-0.now meant is at below mem
    ∙ ap (λ (g : FrameData). Gives (went (frame_of p g ∷ below) mem)) (sym c.pass.ensures)
