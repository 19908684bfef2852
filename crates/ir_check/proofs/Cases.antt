-- Distinct cases of a switch, by how many numbers they have.
use Rattle.std.proofs.Common.{◌≡◌, ◌≢◌, ℕ, zero, suc, List, [], ◌∷◌, length, map, get_or, nat_eq, eqb-true, eq-eqb, refl, sym, ap, ◌∙◌, subst, arith}
use Rattle.std.specs.Prelude.{Decides, AllPairs}
use Rattle.std.specs.Set.{distinct_count}
use Rattle.std.specs.Ordering.{nat_cmp, eq_by_cmp}
use Rattle.std.specs.Cmp.{nat_cmp_total, IsEquivalence}
use Rattle.std.proofs.lemmas.Cmp.{eq_by_cmp_equiv}
use Rattle.std.proofs.lemmas.Bool.Decides.{nat_tests}
use Rattle.std.proofs.lemmas.List.{length-map}
use Rattle.std.proofs.lemmas.Map.Made.{IsDistinct-from_count, distinct_count-from_IsDistinct, AllPairs-from_IsDistinct, IsDistinct-from_AllPairs}

same_number : (a b : ℕ) → Decides (eq_by_cmp nat_cmp a b) (a ≡ b)
same_number a b = (λ e. grind (arith, nat_tests), λ e. grind (arith, nat_tests))

pub get_or-map : {A B : Type 0} (f : A → B) (xs : List A) (i : ℕ) (d : A) → get_or (map f xs) i (f d) ≡ f (get_or xs i d)
get_or-map f [] i d = refl
get_or-map f (x ∷ xs) zero d = refl
get_or-map f (x ∷ xs) (suc i) d = get_or-map f xs i d

abbrev Case : Type 0
Case = ℕ × ℕ

abbrev numbers : List Case → List ℕ
numbers cases = map (λ case. case.0) cases

apart_from_numbers : (cases : List Case) → AllPairs (λ a b. a ≢ b) (numbers cases) → AllPairs (λ a b. a.0 ≢ b.0) cases
apart_from_numbers cases apart i j d less within same =
    apart i j d.0 less (omega (arith, length-map cases (λ case. case.0))) (get_or-map (λ case. case.0) cases i d ∙ same ∙ sym (get_or-map (λ case. case.0) cases j d))

numbers_apart : (cases : List Case) → AllPairs (λ a b. a.0 ≢ b.0) cases → AllPairs (λ a b. a ≢ b) (numbers cases)
numbers_apart cases apart i j d less within same =
    apart i j (d, 0) less (omega (arith, length-map cases (λ case. case.0))) (sym (get_or-map (λ case. case.0) cases i (d, 0)) ∙ same ∙ get_or-map (λ case. case.0) cases j (d, 0))

-- Cases are distinct where they have as many numbers as there are cases.
pub distinct_cases : (cases : List Case) (found : List ℕ) (n : ℕ) → n ≡ distinct_count (eq_by_cmp nat_cmp) found → found ≡ map (λ case. case.0) cases → Decides (nat_eq n (length cases)) (AllPairs (λ a b. a.0 ≢ b.0) cases)
distinct_cases cases found n count is = (
  λ e. apart_from_numbers cases (subst (AllPairs (λ a b. a ≢ b)) is (AllPairs-from_IsDistinct same_number found (IsDistinct-from_count laws found (sym count ∙ eqb-true _ _ e ∙ sym long)))),
  λ apart. eq-eqb _ _ (count ∙ distinct_count-from_IsDistinct laws found (IsDistinct-from_AllPairs same_number found (subst (AllPairs (λ a b. a ≢ b)) (sym is) (numbers_apart cases apart))) ∙ long),
)
  where
    laws : IsEquivalence (eq_by_cmp nat_cmp)
    laws = eq_by_cmp_equiv nat_cmp_total

    long : length found ≡ length cases
    long = ap length is ∙ length-map cases (λ case. case.0)
