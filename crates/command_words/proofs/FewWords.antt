-- Arguments, one after another.
use Rattle.std.proofs.Common.{◌≡◌, ℕ, ℤ, List, [], ◌∷◌, ◌++◌, ◌<◌, length, map, Option, Some, None, option_map, refl, sym, ap, append_assoc, arith}
use Rattle.command_words.specs.Numbers.{argument_of, arguments_of}
use Rattle.command_words.specs.Words.{command_of, winnow_of}

-- these arguments before the others
abbrev pub behind : List ℤ → Option (List ℤ) → Option (List ℤ)
behind args rest = option_map (λ more. args ++ more) rest

behind_two : (args : List ℤ) (z : ℤ) (rest : Option (List ℤ)) → behind args (option_map (λ zs. z ∷ zs) rest) ≡ behind (args ++ z ∷ []) rest
behind_two args z None = refl
behind_two args z (Some more) = ap (λ l. Some l) (sym (append_assoc args (z ∷ []) more))

pub one_more : (args : List ℤ) (word : List ℕ) (words : List (List ℕ)) (z : ℤ) → argument_of word ≡ Some z → behind args (arguments_of (word ∷ words)) ≡ behind (args ++ z ∷ []) (arguments_of words)
one_more args word words z is = rw (is, behind_two args z (arguments_of words))

pub one_none : (args : List ℤ) (word : List ℕ) (words : List (List ℕ)) → argument_of word ≡ None → behind args (arguments_of (word ∷ words)) ≡ None
one_none args word words is = rw (is)

-- ---- words

pub few_none : {W : Type 0} (f : W → List ℕ) (words : List W) → length words < 2 → None ≡ command_of (map f words)
few_none f [] few = refl
few_none f (word ∷ []) few = refl
few_none f (word ∷ other ∷ words) few = absurd (omega arith)

pub more_none : {W : Type 0} (f : W → List ℕ) (name manifest outdir : List ℕ) (more : List W) → (length more ≡ 0 → ⊥) → None ≡ winnow_of name manifest outdir (map f more)
more_none f name manifest outdir [] some = absurd (some refl)
more_none f name manifest outdir (word ∷ words) some = refl
