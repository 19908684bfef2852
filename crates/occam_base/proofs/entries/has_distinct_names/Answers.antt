use Rattle.std.proofs.Common.{◌<◌, ◌+◌, length, drop, sym, subst, arith}
use Rattle.std.proofs.lemmas.List.{take_rest}
use Rattle.occam_base.specs.Entries.{IsFirstAt}
use Rattle.occam_base.proofs.Places.{separates_not}
use Rattle.occam_base.proofs.entries.has_distinct_names.Goals as goal

pub returns-in-Some : goal.returns-in-Some
returns-in-Some c =
    let within : c.loop-at.at < length c.args.files.now = omega arith in
    let again : IsFirstAt c.index-files-at.result.0 (drop (c.loop-at.at + 1) c.args.files.now) c.in-Some.field-0 =
    subst (λ n. IsFirstAt n (drop (c.loop-at.at + 1) c.args.files.now) c.in-Some.field-0) c.as_slice.ensures (rw take_rest at c.in-Some.ensures.place) in
    (λ t. cc, λ h. absurd (separates_not c.args.files.now c.loop-at.at c.index-files-at.result c.in-Some.field-0 within (sym c.index-files-at.is) again c.loop-at.invariant h))
