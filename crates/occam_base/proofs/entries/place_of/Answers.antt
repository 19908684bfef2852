use Rattle.std.proofs.Common.{◌≢◌, ◌<◌, ◌∙◌, length, sym, arith}
use Rattle.std.proofs.lemmas.Slice.Eq.{slice_eq-Decides}
use Rattle.std.proofs.lemmas.Bool.Decides.{Decides-eqb}
use Rattle.occam_base.proofs.Places.{reaches_here, reaches_on}
use Rattle.occam_base.proofs.entries.place_of.Goals as goal

pub returns-then-eq-clause-place : goal.returns-then-eq-clause-place
returns-then-eq-clause-place c =
    let within : c.loop-at.at < length c.args.files.now = omega arith in
    reaches_here c.args.name.now c.args.files.now c.loop-at.at c.index-files-at.result within (sym c.index-files-at.is)
    (sym c.as_slice.ensures ∙ (slice_eq-Decides Decides-eqb _ _ _ c.eq.ensures).0 c.if-eq.true) c.loop-at.invariant

pub loop-at-preserved : goal.loop-at-preserved
loop-at-preserved c =
    let within : c.loop-at.at < length c.args.files.now = omega arith in
    let other : c.index-files-at.result.0 ≢ c.args.name.now = λ e.
    let seen = (slice_eq-Decides Decides-eqb _ _ _ c.eq.ensures).1 (c.as_slice.ensures ∙ e) in cc in
    reaches_on c.args.name.now c.args.files.now c.loop-at.at c.index-files-at.result within (sym c.index-files-at.is) other c.loop-at.invariant
