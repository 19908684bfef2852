use Rattle.std.proofs.Common.{arith, refl, sym, ap, ◌∙◌, ◌≡◌, ◌-◌, ◌+◌, ◌<◌, ◌++◌, ℕ, List, length, map, take, drop, slice_set}
use Rattle.std.proofs.lemmas.List.Edits.{map_over_more}
use Rattle.std.proofs.lemmas.List.{get_or_default, length-set}
use Rattle.std.proofs.Math.ListN.{get_or}
use Rattle.occam_base.proofs.countdown.count_down.Goals as goal

pub loop-at-preserved : goal.loop-at-preserved
loop-at-preserved c =
    let xs : List ℕ = c.args.numbers.now in
    let ys : List ℕ = c.loop-at.numbers in
    let i : ℕ = c.loop-at.at in
    let (n, holds) = c.loop-at.invariant in
    let within : i < length xs = omega (arith, n, c.len-at-end.ensures, c.loop-at-test.true) in
    let x : ℕ = get_or ys i 0 in
    let e : slice_set ys i (x - 1) ≡ map (λ number. number - 1) (take (i + 1) xs) ++ drop (i + 1) xs =
    map_over_more (λ number. number - 1) xs ys i x within holds (get_or_default ys i 0 x (omega (arith, n, within))) in
    let done : c.set.new.self ≡ slice_set ys i (x - 1) =
    c.set.ensures ∙ ap (λ y. slice_set ys i y) (c.saturating_sub.ensures ∙ ap (λ (l : List ℕ). get_or l i 0 - 1) c.as_slice.ensures) in
    (ap (λ (l : List ℕ). length l) done ∙ length-set ys i (x - 1) ∙ n, done ∙ e)
