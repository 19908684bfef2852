-- Places by recursion on the list of names.
use Rattle.std.proofs.Common.{◌≡◌, ◌∙◌, ℕ, suc, ◌+◌, Bool, true, false, cond, not, ◌||◌, List, [], ◌∷◌, ◌++◌, length, map, Some, None, refl, ap, sym, arith, nat_lt, option_map, bytes_eq}
use Rattle.std.proofs.lemmas.Bool.Decides.{nat_tests}
use Rattle.std.proofs.lemmas.List.{map-append}
use Rattle.std.specs.List.{position, list_any}
use Rattle.name_table.specs.Places.{place_among, is_among}

front : (n : ℕ) → nat_lt 0 (suc n) ≡ true
front n = grind (arith, nat_tests)

behind : (k n : ℕ) → nat_lt (1 + k) (suc n) ≡ nat_lt k n
behind k n = grind (arith, nat_tests)

step : (b : Bool) (k n : ℕ) → cond (nat_lt (cond (not b) (1 + k) 0) (suc n)) (Some (cond (not b) (1 + k) 0)) None ≡ cond b (Some 0) (option_map (λ j. suc j) (cond (nat_lt k n) (Some k) None))
step true k n = rw front refl
step false k n = rw behind (moved (nat_lt k n) k)
  where
    moved : (t : Bool) (k : ℕ) → cond t (Some (1 + k)) None ≡ option_map (λ j. suc j) (cond t (Some k) None)
    moved true k = ap (λ j. Some j) (omega arith)
    moved false k = refl

pub position-cons : {X : Type 0} (p : X → Bool) (x : X) (xs : List X) → position p (x ∷ xs) ≡ cond (p x) (Some 0) (option_map (λ k. suc k) (position p xs))
position-cons p x xs = step (p x) _ (length xs)

pub place_among-map : {X : Type 0} (name : List ℕ) (bytes : X → List ℕ) (xs : List X) → place_among name (map bytes xs) ≡ position (λ x. bytes_eq name (bytes x)) xs
place_among-map name bytes [] = refl
place_among-map name bytes (x ∷ xs) =
    ap (λ o. cond (bytes_eq name (bytes x)) (Some 0) (option_map (λ k. suc k) o)) (place_among-map name bytes xs) ∙ sym (position-cons (λ y. bytes_eq name (bytes y)) x xs)

either : (b c : Bool) → cond b true c ≡ (b || c)
either true c = refl
either false c = refl

pub is_among-map : {X : Type 0} (name : List ℕ) (bytes : X → List ℕ) (xs : List X) → is_among name (map bytes xs) ≡ list_any (λ x. bytes_eq name (bytes x)) xs
is_among-map name bytes [] = refl
is_among-map name bytes (x ∷ xs) = ap (λ o. cond (bytes_eq name (bytes x)) true o) (is_among-map name bytes xs) ∙ either (bytes_eq name (bytes x)) _

-- the names after a new one was added
pub names_after : {X : Type 0} (bytes : X → List ℕ) (name : List ℕ) (keys new : List X) (owned : X) → bytes owned ≡ name → list_any (λ y. bytes_eq name (bytes y)) keys ≡ false →
    new ≡ cond (list_any (λ y. bytes_eq (bytes owned) (bytes y)) keys) keys (keys ++ owned ∷ []) → map bytes new ≡ map bytes keys ++ name ∷ []
names_after bytes name keys new owned o absent k =
    ap (map bytes) (k ∙ ap (λ n. cond (list_any (λ y. bytes_eq n (bytes y)) keys) keys (keys ++ owned ∷ [])) o ∙ ap (λ t. cond t keys (keys ++ owned ∷ [])) absent)
    ∙ map-append bytes keys (owned ∷ []) ∙ ap (λ n. map bytes keys ++ n ∷ []) o
