-- Texts without a backslash stand for themselves.
use Rattle.std.proofs.Common.{◌≡◌, ℕ, zero, suc, ◌-◌, Bool, true, false, ◌||◌, List, [], ◌∷◌, length, take, drop, eqb, refl, sym, ap, ◌∙◌, ⊎_elim, Option, Some, None, IfNone}
use Rattle.std.proofs.lemmas.Bool.{or_cases, or_left, or_right, or_parts, false≢true}
use Rattle.std.specs.List.{list_any}
use Rattle.ir_lexer.specs.Texts.{unescaped, inside}

pub unescaped_plain : (text : List ℕ) → list_any (λ b. eqb b 92) text ≡ false → unescaped text ≡ text
unfolding unescaped
unescaped_plain [] none = refl
unescaped_plain (b ∷ []) none = refl
unescaped_plain (b ∷ c ∷ []) none = let parts = or_parts (eqb b 92) _ none in rw (parts.0, unescaped) refl
unescaped_plain (b ∷ c ∷ d ∷ bs) none =
    let parts = or_parts (eqb b 92) _ none in
    rw (parts.0, unescaped) (ap (λ xs. b ∷ xs) (unescaped_plain (c ∷ d ∷ bs) parts.1))

pub any_drop : (p : ℕ → Bool) (n : ℕ) (xs : List ℕ) → list_any p (drop n xs) ≡ true → list_any p xs ≡ true
any_drop p zero xs h = h
any_drop p (suc n) [] h = h
any_drop p (suc n) (x ∷ xs) h = or_right (p x) _ (any_drop p n xs h)

pub any_take : (p : ℕ → Bool) (n : ℕ) (xs : List ℕ) → list_any p (take n xs) ≡ true → list_any p xs ≡ true
any_take p zero xs h = absurd (false≢true h)
any_take p (suc n) [] h = h
any_take p (suc n) (x ∷ xs) h = ⊎_elim
    (λ here. or_left (p x) _ here)
    (λ there. or_right (p x) _ (any_take p n xs there))
    (or_cases (p x) _ h)

-- what holds where nothing is answered
pub if_none_wider : {X P Q : Type 0} (r : Option X) → (P → Q) → IfNone r P → IfNone r Q
if_none_wider None wider h = wider h
if_none_wider (Some x) wider h = tt
