-- The passes of two workers have met.
use Rattle.std.proofs.Common.{◌≡◌, ℕ, zero, suc, ◌<◌, List, [], ◌∷◌, ◌++◌, sym, refl, ap, ◌∙◌, subst, arith}
use Rattle.table_rule.specs.declared.view.View.{View}
use Rattle.table_rule.specs.Layout.{Has}
use Rattle.table_rule.specs.Views.{both_of}

both_there : (k : ℕ) → k < 2 → Has (0 ∷ 1 ∷ []) k
both_there zero lt = (0, refl)
both_there (suc zero) lt = (1, refl)
both_there (suc (suc k)) lt = absurd (omega (arith, lt))

pub met_two : (v w u : View) (n : ℕ) → u ≡ both_of v w → v.workers ≡ 0 ∷ [] → w.workers ≡ 1 ∷ [] → n ≡ 2 → (k : ℕ) → k < n → Has u.workers k
met_two v w u n e ev ew en k lt =
    let all : u.workers ≡ 0 ∷ 1 ∷ [] = ap (λ (z : View). z.workers) e ∙ (λ i. ev i ++ ew i) in
    subst (λ (l : List ℕ). Has l k) (sym all) (both_there k (omega (arith, lt, en)))
