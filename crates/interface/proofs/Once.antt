-- Symbols where they stand first, as they are found one by one.
use Rattle.std.proofs.Common.{◌≡◌, ◌∙◌, ℕ, Bool, true, false, cond, List, [], ◌∷◌, ◌++◌, refl, sym, ap}
use Rattle.std.specs.Prelude.{not, ◌&&◌, ◌||◌}
use Rattle.std.specs.List.{filter}
use Rattle.ir_syntax.specs.declared.symbol.Sym.{Sym}
use Rattle.interface.specs.Roots.{is_symbol, once}

filter_both : (p q r : Sym → Bool) → ((x : Sym) → r x ≡ (q x && p x)) → (xs : List Sym) → filter p (filter q xs) ≡ filter r xs
filter_both p q r same [] = refl
filter_both p q r same (x ∷ xs) = by (q x) (p x) (r x) (same x) refl (filter_both p q r same xs)
  where
    by : (b c d : Bool) → d ≡ (b && c) → p x ≡ c → filter p (filter q xs) ≡ filter r xs → filter p (cond b (x ∷ filter q xs) (filter q xs)) ≡ cond d (x ∷ filter r xs) (filter r xs)
    by false c d e h rest = rest ∙ ap (λ f. cond f (x ∷ filter r xs) (filter r xs)) (sym e)
    by true true d e h rest = ap (λ f. cond f (x ∷ filter p (filter q xs)) (filter p (filter q xs))) h ∙ ap (λ l. x ∷ l) rest ∙ ap (λ f. cond f (x ∷ filter r xs) (filter r xs)) (sym e)
    by true false d e h rest = ap (λ f. cond f (x ∷ filter p (filter q xs)) (filter p (filter q xs))) h ∙ rest ∙ ap (λ f. cond f (x ∷ filter r xs) (filter r xs)) (sym e)

not_either : (a b : Bool) → not (a || b) ≡ (not a && not b)
not_either true b = refl
not_either false b = refl

-- what is left of the symbols, where `before` tells those that were seen before one and `after` those and itself
pub once_step : (before after : Sym → Bool) (symbol : Sym) (more : List Sym) → ((other : Sym) → after other ≡ (is_symbol symbol other || before other))
    → filter (λ other. not (before other)) (once (symbol ∷ more)) ≡ cond (before symbol) [] (symbol ∷ []) ++ filter (λ other. not (after other)) (once more)
once_step before after symbol more adds =
    by (before symbol)
    (filter_both (λ other. not (before other)) (λ other. not (is_symbol symbol other)) (λ other. not (after other))
    (λ other. ap not (adds other) ∙ not_either (is_symbol symbol other) (before other)) (once more))
  where
    by : (b : Bool) → filter (λ other. not (before other)) (filter (λ other. not (is_symbol symbol other)) (once more)) ≡ filter (λ other. not (after other)) (once more)
        → cond (not b) (symbol ∷ filter (λ other. not (before other)) (filter (λ other. not (is_symbol symbol other)) (once more))) (filter (λ other. not (before other)) (filter (λ other. not (is_symbol symbol other)) (once more)))
        ≡ cond b [] (symbol ∷ []) ++ filter (λ other. not (after other)) (once more)
    by true h = h
    by false h = ap (λ l. symbol ∷ l) h

pub or_cond : (a b : Bool) → cond a true b ≡ (a || b)
or_cond true b = refl
or_cond false b = refl

assoc : {A : Type 0} (xs ys zs : List A) → (xs ++ ys) ++ zs ≡ xs ++ (ys ++ zs)
assoc [] ys zs = refl
assoc (x ∷ xs) ys zs = ap (λ l. x ∷ l) (assoc xs ys zs)

-- one more symbol was looked at
pub once_next : (before after : Sym → Bool) (whole made next rest more : List Sym) (symbol : Sym) → made ++ filter (λ other. not (before other)) (once rest) ≡ whole → rest ≡ symbol ∷ more
    → next ≡ made ++ cond (before symbol) [] (symbol ∷ []) → ((other : Sym) → after other ≡ (is_symbol symbol other || before other)) → next ++ filter (λ other. not (after other)) (once more) ≡ whole
once_next before after whole made next rest more symbol so is pushed adds =
    ap (λ l. l ++ filter (λ other. not (after other)) (once more)) pushed
    ∙ assoc made (cond (before symbol) [] (symbol ∷ [])) (filter (λ other. not (after other)) (once more))
    ∙ ap (λ l. made ++ l) (sym (once_step before after symbol more adds))
    ∙ ap (λ l. made ++ filter (λ other. not (before other)) (once l)) (sym is)
    ∙ so

-- and the first one, before which none was seen
pub once_first : (before after : Sym → Bool) (made : List Sym) (symbol : Sym) (more : List Sym) → ((other : Sym) → before other ≡ false) → made ≡ [] ++ cond (before symbol) [] (symbol ∷ [])
    → ((other : Sym) → after other ≡ (is_symbol symbol other || before other)) → made ++ filter (λ other. not (after other)) (once more) ≡ once (symbol ∷ more)
once_first before after made symbol more none pushed adds = once_next before after (once (symbol ∷ more)) [] made (symbol ∷ more) more symbol (all (once (symbol ∷ more))) refl pushed adds
  where
    all : (xs : List Sym) → filter (λ other. not (before other)) xs ≡ xs
    all [] = refl
    all (x ∷ xs) = ap (λ b. cond (not b) (x ∷ filter (λ other. not (before other)) xs) (filter (λ other. not (before other)) xs)) (none x) ∙ ap (λ l. x ∷ l) (all xs)
