-- The table of zeros keeps the rule.
use Rattle.std.proofs.Common.{◌≡◌, ℕ, suc, zero, ◌+◌, ◌<◌, ◌≤◌, [], ◌∷◌, get_or, replicate, sym, refl, ◌∙◌, subst, arith}
use Rattle.std.proofs.lemmas.List.{length-replicate, get_or-replicate}
use mathlib.Core.Option.{some, some-injective, some-ne-none}
use lib.ListN.{get_elem?}
use Rattle.table_rule.specs.declared.view.View.{View}
use Rattle.table_rule.specs.Layout.{Has, word_of, total}
use Rattle.table_rule.specs.Views.{counted, all_of}
use Rattle.table_rule.specs.Rule.{Status, Rule, Keeps}
use Rattle.table_rule.proofs.Lists.{has_none}

pub counted_below : (k n x : ℕ) → Has (counted k n) x → (k ≤ x) × (x < k + n)
counted_below k zero x h = absurd (has_none x h)
counted_below k (suc n) x (zero, e) = let is : k ≡ x = some-injective k x e in (omega arith, omega arith)
counted_below k (suc n) x (suc i, e) = let r = counted_below (k + 1) n x (i, e) in let lo = r.0 in let hi = r.1 in (omega arith, omega arith)

pub counted_at : (k n i x : ℕ) → get_elem? (counted k n) i ≡ some x → x ≡ k + i
counted_at k zero i x e = absurd (some-ne-none x (sym e))
counted_at k (suc n) zero x e = let is : k ≡ x = some-injective k x e in omega arith
counted_at k (suc n) (suc i) x e = let is : x ≡ k + 1 + i = counted_at (k + 1) n i x e in omega arith

one_view : (v u : View) (i : ℕ) → get_elem? (v ∷ []) i ≡ some u → (i ≡ 0) × (v ≡ u)
one_view v u zero e = (refl, some-injective v u e)
one_view v u (suc i) e = absurd (some-ne-none u (sym e))

no_row : (x : ℕ) (t : Status) → get_elem? [] x ≡ some t → ⊥
no_row x t e = some-ne-none t (sym e)

first : (n : ℕ) → 0 < n → Has (counted 0 n) 0
first zero h = absurd (omega arith)
first (suc n) h = (0, refl)

pub opens : (n m : ℕ) → 0 < n → n ≤ 64 → m ≡ total n → Rule n (replicate m 0) (all_of n ∷ [])
opens n m some_worker few is =
    let zero_ : ℕ = 0 in
    let zeros : (q : ℕ) → q < m → get_or (replicate m zero_) q zero_ ≡ zero_ = λ q lt. get_or-replicate m q zero_ zero_ lt in
    let keeps : Keeps n (replicate m 0) [] (all_of n) = record {
      workers = record {
        bounded = λ k h. let t = (counted_below 0 n k h).1 in omega arith;
        once = λ i j k e f. let a : k ≡ 0 + i = counted_at 0 n i k e in let c : k ≡ 0 + j = counted_at 0 n j k f in omega arith;
        least = λ k h. (first n some_worker, omega arith);
        limit = λ k h. refl;
      };
      opens = record { mine = λ x k e h. absurd (no_row x _ e); shown = λ x k ws h. absurd (has_none (k, (x, ws)) h) };
      knows = λ q a h. absurd (has_none (q, a) h);
      makes = record { makes = λ x k o h. absurd (has_none (x, (k, o)) h); made = λ x p k o e is' h. absurd (no_row x _ e) };
      claims = record {
        claims = λ x k h. absurd (has_none (x, k) h);
        claimed = λ x k lt e h. let z : get_or (replicate m zero_) (word_of x 36) zero_ ≡ zero_ = zeros (word_of x 36) (omega arith) in absurd (omega (arith, z, e));
        once = λ i j x k l e f. absurd (some-ne-none (x, k) (sym e));
      };
    } in
    record {
      rows = [];
      order = [];
      numbers = record {
        wide = length-replicate m 0 ∙ is;
        narrow = few;
        drawn = zeros 0 (omega arith);
        apart = λ x y k e. absurd (no_row x _ e);
        few = λ x k e. absurd (no_row x _ e);
        below = λ x p e. absurd (no_row x _ e);
        slot = λ x p e. absurd (no_row x _ e);
        named = λ p x lo hi e. let z : get_or (replicate m zero_) p zero_ ≡ zero_ = zeros p (let hi' : p ≤ 131072 = hi in omega arith) in absurd (omega (arith, z, e));
        blank = λ x j past lo lt. zeros (word_of x j) (omega arith);
      };
      chains = record { short = λ x p e. absurd (no_row x _ e); chain = λ x p e. absurd (no_row x _ e) };
      origins = record { listed = λ x p e. absurd (no_row x _ e); ordered = λ i x e. absurd (some-ne-none x (sym e)); single = λ i j x e f. absurd (some-ne-none x (sym e)); origin = λ x p e. absurd (no_row x _ e) };
      claimed = λ x k lt e. let z : get_or (replicate m zero_) (word_of x 36) zero_ ≡ zero_ = zeros (word_of x 36) (omega arith) in absurd (omega (arith, z, e));
      each = λ id v e. subst (λ (u : View). Keeps n (replicate m 0) [] u) (one_view (all_of n) v id e).1 keeps;
      apart = λ i j v w k ei ej hv hw. (one_view (all_of n) v i ei).0 ∙ sym (one_view (all_of n) w j ej).0;
    }
