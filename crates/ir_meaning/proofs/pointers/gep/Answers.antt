use Rattle.std.proofs.Common.{◌∙◌, ℤ, ap, sym, subst, rules, w64, FitsSigned}
use Rattle.std.proofs.lemmas.Int.{to_z-of_z}
use Rattle.block_memory.specs.Answers.{IsMeant}
use Rattle.ir_steps.specs.Pointers as pointers
use Rattle.ir_meaning.specs.Models.{frame_of}
use Rattle.ir_meaning.proofs.Walked.{along_is_meant, gep_sums, gep_is_poison}
use Rattle.ir_meaning.proofs.pointers.gep.Goals as goal

pub moved_along-requires-clause-meant : goal.moved_along-requires-clause-meant
moved_along-requires-clause-meant c =
    let p = c.args.p.now in
    along_is_meant p (frame_of p c.args.frame.now) c.args.memory.now c.args.inbounds c.args.ty.now c.args.indices.now c.args.base.now c.requires.meant

pub moved_by-requires : goal.moved_by-requires
moved_by-requires c =
    let p = c.args.p.now in
    let fits : FitsSigned w64 c.in-Some.by = search rules in
    let sums = gep_sums p (frame_of p c.args.frame.now) c.args.memory.now c.args.inbounds c.args.ty.now c.args.indices.now c.args.base.now c.in-Some.by c.requires.meant c.in-Some.ensures in
    subst (λ (z : ℤ). IsMeant (pointers.moved_by c.args.memory.now c.args.inbounds c.args.base.now z)) (sym (to_z-of_z w64 c.in-Some.by fits)) (subst IsMeant sums c.requires.meant)

pub returns-in-Some : goal.returns-in-Some
returns-in-Some c =
    let p = c.args.p.now in
    let fits : FitsSigned w64 c.in-Some.by = search rules in
    gep_sums p (frame_of p c.args.frame.now) c.args.memory.now c.args.inbounds c.args.ty.now c.args.indices.now c.args.base.now c.in-Some.by c.requires.meant c.in-Some.ensures
    ∙ ap (pointers.moved_by c.args.memory.now c.args.inbounds c.args.base.now) (sym (to_z-of_z w64 c.in-Some.by fits))
    ∙ c.moved_by.ensures

pub returns-in-None : goal.returns-in-None
returns-in-None c =
    let p = c.args.p.now in
    gep_is_poison p (frame_of p c.args.frame.now) c.args.memory.now c.args.inbounds c.args.ty.now c.args.indices.now c.args.base.now c.requires.meant c.in-None.ensures
