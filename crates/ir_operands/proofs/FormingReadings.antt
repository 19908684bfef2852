-- What holds of each part that is read holds of what is made of the parts.
use Rattle.std.proofs.Common.{◌≡◌, ℕ, zero, suc, ◌+◌, ◌-◌, Bool, true, false, cond, List, [], ◌∷◌, drop, Option, Some, None, option_map, option_and_then, refl}
use Rattle.std.specs.Prelude.{All, IfSome}
use Rattle.std.proofs.lemmas.List.Elements.{All-nil, All-cons}
use Rattle.ir_types.specs.declared.scalar.Scalar.{Scalar}
use Rattle.ir_grammar.specs.declared.shape.Shape.{Shape}
use Rattle.ir_grammar.specs.declared.shape.Shape.TheVariants as is
use Rattle.ir_grammar.specs.Tokens.{Kept}
use Rattle.ir_scope.specs.Runs.{Reading, behind, run, begins_with, closed_by}
use Rattle.ir_operands.specs.Operands.{then_at, typed}

-- What is read, where something is, is so.
abbrev pub IsRead : {X : Type 0} → (X → Type 0) → Option (X × ℕ) → Type 0
IsRead P found = IfSome found (λ f. P f.0)

pub read-behind : {X : Type 0} (P : X → Type 0) (n : ℕ) (found : Option (X × ℕ)) → IsRead P found → IsRead P (behind n found)
read-behind P n None h = tt
read-behind P n (Some f) h = h

pub read-map : {X Y : Type 0} (P : X → Type 0) (Q : Y → Type 0) (make : X × ℕ → Y × ℕ) (found : Option (X × ℕ)) → IsRead P found → ((f : X × ℕ) → P f.0 → Q (make f).0) → IsRead Q (option_map make found)
read-map P Q make None h step = tt
read-map P Q make (Some f) h step = step f h

pub read-next : {X Y : Type 0} (P : X → Type 0) (Q : Y → Type 0) (next : X × ℕ → Option (Y × ℕ)) (found : Option (X × ℕ)) → IsRead P found → ((f : X × ℕ) → P f.0 → IsRead Q (next f)) → IsRead Q (option_and_then next found)
read-next P Q next None h step = tt
read-next P Q next (Some f) h step = step f h

pub read-where : {X : Type 0} (P : X → Type 0) (b : Bool) (found : Option (X × ℕ)) → (b ≡ true → IsRead P found) → IsRead P (cond b found None)
read-where P true found h = h refl
read-where P false found h = tt

pub read-then : {X Y Z : Type 0} (P : X → Type 0) (Q : Y → Type 0) (R : Z → Type 0) (make : X → Y → Z) (ks : List Kept) (next : Reading Y) (found : Option (X × ℕ)) →
    IsRead P found → ((rest : List Kept) → IsRead Q (next rest)) → ((x : X) (y : Y) → P x → Q y → R (make x y)) → IsRead R (then_at make ks next found)
read-then P Q R make ks next found first second step =
    read-next P R _ found first
    (λ f p. read-behind R f.1 _ (read-map Q R _ (next (drop f.1 ks)) (second (drop f.1 ks)) (λ g q. step f.0 g.0 p q)))

pub read-typed : {X : Type 0} (P : Scalar → X → Type 0) (next : Scalar → Reading X) (ks : List Kept) → ((ty : Scalar) (rest : List Kept) → IsRead (P ty) (next ty rest)) → IsRead (λ f. P f.0 f.1) (typed next ks)
read-typed P next [] h = tt
read-typed P next ((is.Scalar ty, text) ∷ ks) h = read-behind (λ f. P f.0 f.1) 1 _ (read-map (P ty) (λ f. P f.0 f.1) _ (next ty ks) (h ty ks) (λ f p. p))
read-typed P next (k ∷ ks) h = tt

pub read-run : {X : Type 0} (P : X → Type 0) (begins : Shape → Bool) (part : Reading X) (skipped : ℕ) (ks : List Kept) →
    ((k : Kept) (rest : List Kept) → begins k.0 ≡ true → IsRead P (part (k ∷ rest))) → IsRead (All P) (run begins part skipped ks)
read-run P begins part skipped [] h = All-nil P
read-run P begins part zero (k ∷ ks) h = cases (λ n. read-run P begins part n ks h) (begins k.0) refl
  where
    cases : ((n : ℕ) → IsRead (All P) (run begins part n ks)) → (b : Bool) → begins k.0 ≡ b → IsRead (All P) (cond b (option_and_then (λ f. option_map (λ rest. (f.0 ∷ rest.0, f.1 + rest.1)) (run begins part (f.1 - 1) ks)) (part (k ∷ ks))) (Some ([], 0)))
    cases again true e =
        read-next P (All P) _ (part (k ∷ ks)) (h k ks e)
        (λ f p. read-map (All P) (All P) _ (run begins part (f.1 - 1) ks) (again (f.1 - 1)) (λ rest ps. All-cons P f.0 rest.0 p ps))
    cases again false e = All-nil P
read-run P begins part (suc skipped) (k ∷ ks) h = read-run P begins part skipped ks h

pub read-closed : {X : Type 0} (P : X → Type 0) (ends : Shape → Bool) (ks : List Kept) (found : Option (X × ℕ)) → IsRead P found → IsRead P (closed_by ends ks found)
read-closed P ends ks found h = read-next P P _ found h (λ f p. read-where P (begins_with ends (drop f.1 ks)) (Some (f.0, f.1 + 1)) (λ e. p))

-- Any reading reads something.
abbrev pub Any : {X : Type 0} → X → Type 0
Any x = Unit {0}

pub read-any : {X : Type 0} (found : Option (X × ℕ)) → IsRead Any found
read-any None = tt
read-any (Some f) = tt
