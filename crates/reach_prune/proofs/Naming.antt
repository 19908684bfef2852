-- Names that are kept as one are one, where rows hold them.
use Rattle.std.proofs.Common.{◌≡◌, ◌∙◌, ℕ, suc, ◌+◌, ◌<◌, ◌≤◌, nat_eq, Bool, true, false, List, [], ◌∷◌, ◌++◌, Option, None, Some, length, take, get_or, All, refl, sym, ap, subst, arith, bytes_eq}
use Rattle.std.specs.Prelude.{◌≢◌, ◌==◌, ◌||◌, Contains, AllPairs, slice_get, is_some, if◌then◌else◌}
use Rattle.std.specs.Cmp.{IsEquivalence}
use Rattle.std.specs.List.{list_any, IsDistinct}
use Rattle.std.specs.List.Sorted.{IsPermutation}
use Rattle.std.proofs.lemmas.Bool.{false≢true}
use Rattle.std.proofs.lemmas.Cmp.{nat_eq_equiv}
use Rattle.std.proofs.lemmas.List.Elements.{All-nil, All-cons, All-head, All-tail, All-take}
use Rattle.std.proofs.lemmas.List.Folds.{list_any-append}
use Rattle.std.proofs.lemmas.Map.Keys.{apart_from_distinct, IsDistinct-IsPermutation}
use Rattle.std.proofs.lemmas.Map.Views.{list_any-from_Contains}
use Rattle.std.proofs.lemmas.Slice.Eq.{bytes_eq-Decides}
use Rattle.std.proofs.lemmas.Option.{slice_get_within}
use Rattle.ir_types.proofs.ListSteps.{take_at, All-at, slice_get-append_first, slice_get-append_rest}
use Rattle.demands.specs.declared.demand.Demand.{Demand}
use Rattle.demands.specs.Rows.{words_of, FitsRow}
use Rattle.demands.proofs.SameDemand.{row-same}
use Rattle.winnowed_form.specs.declared.named.Named.{Named}
use Rattle.winnowed_form.specs.declared.named.Named.TheVariants.{Own, CopyOf}
use Rattle.reach_prune.specs.declared.places.Places.{Places}
use Rattle.reach_prune.specs.Mirrors.Places.{kept_place, place_or, place_in, is_name, HasRow, ArePlaced}

-- ---- one name

bytes_refl : (a : List ℕ) → bytes_eq a a ≡ true
bytes_refl a = (bytes_eq-Decides a a).1 refl

bytes_symm : (a b : List ℕ) → bytes_eq a b ≡ bytes_eq b a
bytes_symm a b = by (bytes_eq a b) (bytes_eq b a) refl refl
  where
    by : (s t : Bool) → bytes_eq a b ≡ s → bytes_eq b a ≡ t → s ≡ t
    by true true e f = refl
    by false false e f = refl
    by true false e f = absurd (false≢true (sym f ∙ (bytes_eq-Decides b a).1 (sym ((bytes_eq-Decides a b).0 e))))
    by false true e f = absurd (false≢true (sym e ∙ (bytes_eq-Decides a b).1 (sym ((bytes_eq-Decides b a).0 f))))

bytes_congr : (a b c : List ℕ) → bytes_eq a b ≡ true → bytes_eq a c ≡ bytes_eq b c
bytes_congr a b c e = ap (λ x. bytes_eq x c) ((bytes_eq-Decides a b).0 e)

names_congr : (a b c : Named) → is_name a b ≡ true → is_name a c ≡ is_name b c
names_congr (Own k) (Own j) (Own i) e = nat_eq_equiv.congr k j i e
names_congr (Own k) (Own j) (CopyOf d) e = refl
names_congr (Own k) (CopyOf d) c e = absurd (false≢true e)
names_congr (CopyOf d) (Own j) c e = absurd (false≢true e)
names_congr (CopyOf d) (CopyOf f) (Own i) e = refl
names_congr (CopyOf d) (CopyOf f) (CopyOf g) e = bytes_congr (words_of d) (words_of f) (words_of g) e

names_refl : (a : Named) → is_name a a ≡ true
names_refl (Own k) = nat_eq_equiv.refl k
names_refl (CopyOf d) = bytes_refl (words_of d)

names_symm : (a b : Named) → is_name a b ≡ is_name b a
names_symm (Own k) (Own j) = nat_eq_equiv.symm k j
names_symm (Own k) (CopyOf d) = refl
names_symm (CopyOf d) (Own j) = refl
names_symm (CopyOf d) (CopyOf e) = bytes_symm (words_of d) (words_of e)

pub names_equiv : IsEquivalence is_name
names_equiv = record { refl = names_refl; symm = names_symm; congr = names_congr }

nat_same : (k j : ℕ) → (k == j) ≡ true → k ≡ j
nat_same k j e = grind arith

pub name_same : (a b : Named) → HasRow a → HasRow b → is_name a b ≡ true → a ≡ b
name_same (Own k) (Own j) fits fits' e = ap Own (nat_same k j e)
name_same (Own k) (CopyOf d) fits fits' e = absurd (false≢true e)
name_same (CopyOf d) (Own j) fits fits' e = absurd (false≢true e)
name_same (CopyOf d) (CopyOf f) fits fits' e = ap CopyOf (row-same d f fits fits' ((bytes_eq-Decides (words_of d) (words_of f)).0 e))

-- ---- names among names

-- a name that is found is there
pub found_there : (named : Named) (names : List Named) → HasRow named → All HasRow names → list_any (is_name named) names ≡ true → Contains names named
found_there named [] fits all e = absurd (false≢true e)
found_there named (first ∷ more) fits all e = by (found_there named more fits (All-tail HasRow first more all)) (is_name named first) refl e
  where
    later : Contains more named → Contains (first ∷ more) named
    later h = (suc h.0, omega (arith, h.1), h.2)

    by : (list_any (is_name named) more ≡ true → Contains more named) → (b : Bool) → is_name named first ≡ b → (b || list_any (is_name named) more) ≡ true → Contains (first ∷ more) named
    by rest true at h = (0, omega arith, sym (name_same named first fits (All-head HasRow first more all) at))
    by rest false at h = later (rest h)

pub there_found : (named : Named) (names : List Named) → Contains names named → list_any (is_name named) names ≡ true
there_found named names there = list_any-from_Contains names_equiv named names there

-- ---- distinct names

pub apart : (names : List Named) → IsDistinct is_name names → AllPairs (λ one other. one ≢ other) names
apart names distinct i j d before within same =
    false≢true (sym (apart_from_distinct is_name names i j d distinct before within) ∙ ap (λ x. is_name (get_or names i d) x) (sym same) ∙ names_refl (get_or names i d))

pub distinct_moved : (names moved : List Named) → IsPermutation names moved → IsDistinct is_name names → IsDistinct is_name moved
distinct_moved = IsDistinct-IsPermutation is_name names_symm
