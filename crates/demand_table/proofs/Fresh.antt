-- The passes of a new table.
use Rattle.std.proofs.Common.{◌≡◌, ℕ, zero, suc, ◌+◌, ◌-◌, ◌<◌, ◌≤◌, min, List, [], ◌∷◌, ◌++◌, map, replicate, slice_index, sym, refl, ap, ◌∙◌, subst, arith}
use Rattle.std.specs.Prelude.{Option, Some, None}
use Rattle.std.proofs.lemmas.List.{length-replicate}
use mathlib.Core.Option.{some, some-injective, some-ne-none}
use lib.ListN.{get_elem?}
use Rattle.atomic_table.specs.Seated.{TableId}
use Rattle.table_rule.specs.declared.view.View.{View}
use Rattle.table_rule.specs.Layout.{total}
use Rattle.table_rule.specs.Views.{counted, least_of, keeping}
use Rattle.table_rule.proofs.Lists.{has_none, has_only}
use Rattle.table_rule.proofs.Seating.{min_left}
use Rattle.demand_table.specs.Passes.{PassView, fresh, fresh_pass, fresh_passes}
use Rattle.demand_table.specs.Ties.{Ties}
use Rattle.demand_table.proofs.Tied.{some_not_none}

-- the view that is left for m workers from k on
abbrev pub left_view : ℕ → ℕ → ℕ → View
left_view k m rows = record { workers = counted k m; lead = k; limit = rows; held = []; known = []; made = []; claims = []; empties = [] }

least_counted : (k m : ℕ) → least_of (counted k (suc m)) ≡ k
least_counted k zero = refl
least_counted k (suc m) = ap (min k) (least_counted (k + 1) m) ∙ min_left k (k + 1) (omega arith)

pub keeps_left : (k m rows : ℕ) → keeping (left_view k (suc (suc m)) rows) ≡ left_view (k + 1) (suc m) rows
keeps_left k m rows = ap (λ (n : ℕ). record { workers = counted (k + 1) (suc m); lead = n; limit = rows; held = []; known = []; made = []; claims = []; empties = [] }) (least_counted (k + 1) m)

counted_more : (k n : ℕ) → counted k (suc n) ≡ counted k n ++ (k + n) ∷ []
counted_more k zero = let e : k ≡ k + 0 = omega arith in λ i. e i ∷ []
counted_more k (suc n) =
    let rest = counted_more (k + 1) n in
    let e : k + 1 + n ≡ k + suc n = omega arith in
    ap (λ (l : List ℕ). k ∷ l) rest ∙ ap (λ (z : ℕ). k ∷ (counted (k + 1) n ++ z ∷ [])) e

map_behind : {A B : Type 0} (f : A → B) (l : List A) (x : A) → map f (l ++ x ∷ []) ≡ map f l ++ f x ∷ []
map_behind f [] x = refl
map_behind f (y ∷ l) x = ap (λ z. f y ∷ z) (map_behind f l x)

pub passes_more : (table : TableId) (b n : ℕ) → fresh_passes table b 0 (suc n) ≡ fresh_passes table b 0 n ++ fresh_pass table b n ∷ []
passes_more table b n =
    let z : 0 + n ≡ n = omega arith in
    ap (λ (l : List ℕ). map (fresh_pass table b) l) (counted_more 0 n) ∙ (map_behind (fresh_pass table b) (counted 0 n) (0 + n) ∙ ap (λ (m : ℕ). fresh_passes table b 0 n ++ fresh_pass table b m ∷ []) z)

zeros_at : (n i : ℕ) → slice_index (replicate n 0) i ≡ 0
zeros_at zero i = refl
zeros_at (suc n) zero = refl
zeros_at (suc n) (suc i) = zeros_at n i

nones_at : (n i : ℕ) (o : Option ℕ) → get_elem? (replicate n None) i ≡ some o → o ≡ None
nones_at zero i o e = absurd (some-ne-none o (sym e))
nones_at (suc n) zero o e = sym (some-injective None o e)
nones_at (suc n) (suc i) o e = nones_at n i o e

pub ties_fresh : (table : TableId) (b worker : ℕ) (found : List ℕ) → table.words ≡ total b → worker < b → b ≤ 64 → found ≡ replicate (65536 + b) 0 → Ties table (fresh worker (65536 + b)) found (replicate 64 None) worker
ties_fresh table b worker found words lt few is = subst (λ (l : List ℕ). Ties table (fresh worker (65536 + b)) l (replicate 64 None) worker) (sym is) record {
  sizes = record { words = words; large = omega (arith, lt); small = omega (arith, few) };
  finds = record {
    wide = length-replicate {A = ℕ} (65536 + b) 0;
    slot = λ t ne. absurd (ne (zeros_at (65536 + b) t));
    all = λ p t lo hi h. absurd (has_none _ h);
  };
  holds = record {
    wide = length-replicate {A = Option ℕ} 64 None;
    own = λ k x e. absurd (some_not_none x (nones_at 64 k (Some x) e));
    all = λ k x ws h. absurd (has_none _ h);
    apart = λ k l x e f. absurd (some_not_none x (nones_at 64 k (Some x) e));
  };
  works = record {
    lead = refl;
    own = (0, refl);
    few = λ k h. let e : worker ≡ k = has_only worker k h in omega (arith, lt, few, e);
    claims = λ x k h. absurd (has_none _ h);
  };
}

pub fresh_invariant : {A : Type 0} (table : TableId) (b worker : ℕ) (found : List ℕ) (me : View × List A) → me ≡ (fresh worker (65536 + b), []) → table.words ≡ total b → worker < b → b ≤ 64 → found ≡ replicate (65536 + b) 0 → (me.1 ≡ []) × Ties table me.0 found (replicate 64 None) worker
fresh_invariant {A} table b worker found me e words lt few is = (ap (λ (z : View × List A). z.1) e, subst (λ (z : View). Ties table z found (replicate 64 None) worker) (sym (ap (λ (z : View × List A). z.0) e)) (ties_fresh table b worker found words lt few is))

pub passes_push : (table t : TableId) (b k : ℕ) (items items' : List PassView) (p : PassView) → items ≡ fresh_passes table b 0 k → items' ≡ items ++ p ∷ [] → p ≡ fresh_pass t b k → t ≡ table → items' ≡ fresh_passes table b 0 (k + 1)
passes_push table t b k items items' p was is new same =
    let up : suc k ≡ k + 1 = omega arith in
    let pass : p ≡ fresh_pass table b k = new ∙ ap (λ (z : TableId). fresh_pass z b k) same in
    is ∙ (ap (λ (l : List PassView). l ++ p ∷ []) was ∙ (ap (λ (z : PassView). fresh_passes table b 0 k ++ z ∷ []) pass ∙ (sym (passes_more table b k) ∙ ap (λ (n : ℕ). fresh_passes table b 0 n) up)))

pub keeps_next : {A : Type 0} (k n rows : ℕ) (me next : View × List A) → k + 1 < n → me ≡ (left_view k (n - k) rows, []) → next ≡ (keeping me.0, me.1) → next ≡ (left_view (k + 1) (n - (k + 1)) rows, [])
keeps_next {A} k n rows me next lt is e =
    let m : ℕ = n - k - 2 in
    let two : n - k ≡ suc (suc m) = omega (arith, lt) in
    let one : suc m ≡ n - (k + 1) = omega (arith, lt) in
    let at : me ≡ (left_view k (suc (suc m)) rows, []) = is ∙ ap (λ (z : ℕ). (left_view k z rows, [])) two in
    e ∙ (ap (λ (z : View × List A). (keeping z.0, z.1)) at ∙ (ap (λ (z : View). (z, [])) (keeps_left k m rows) ∙ ap (λ (z : ℕ). (left_view (k + 1) z rows, [])) one))
