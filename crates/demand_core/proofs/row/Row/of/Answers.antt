use Rattle.std.proofs.Common.{◌≡◌, ℕ, ◌-◌, ◌≤◌, List, ◌++◌, length, ap, sym, subst, ◌∙◌, arith, length-append}
use Rattle.std.proofs.Math.ListN.{drop, replicate}
use Rattle.std.proofs.Math.Seq.{take-append_seam}
use Rattle.std.proofs.lemmas.List.{length-replicate, drop-replicate}
use Rattle.demand_core.specs.Row.{IsKept, filled}
use Rattle.demand_core.proofs.row.Row.of.Goals as goal

-- the first of 34 zeros are written
written : (words kept : List ℕ) → kept ≡ words → length words ≤ 34 → IsKept (kept ++ drop (length words) (replicate 34 0)) (length words)
written words kept same few =
    let zeros : List ℕ = replicate 34 0 in
    let rest : drop (length words) zeros ≡ replicate (34 - length words) 0 = drop-replicate {X = ℕ} (length words) 34 0 in
    let whole = take-append_seam words (drop (length words) zeros) in
    let done : IsKept (words ++ drop (length words) zeros) (length words) = record {
      few = few;
      long = omega (arith, length-append words (drop (length words) zeros), ap length rest, length-replicate {A = ℕ} (34 - length words) 0);
      zeros = ap filled whole ∙ ap (λ (zs : List ℕ). words ++ zs) (sym rest);
    } in
    subst (λ (front : List ℕ). IsKept (front ++ drop (length words) zeros) (length words)) (sym same) done

pub invariant_of-result : goal.invariant_of-result
invariant_of-result c = written _ _ c.copy_from_slice.ensures.after c.if-words-gt34.false
