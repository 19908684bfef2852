-- The arguments of an entry, one after another.
use Rattle.std.proofs.Common.{◌≡◌, ◌∙◌, ℤ, List, [], ◌∷◌, ◌++◌, Option, Some, None, option_map, refl, sym, ap, append_assoc}
use Rattle.ir_types.specs.declared.scalar.Known.{Known}
use Rattle.ir_types.specs.declared.scalar.Known.TheVariants.{Unknown, Num, Null}
use Rattle.program_runner.specs.Arguments.{filled, numbers_in}
use Rattle.program_runner.specs.Mirrors.Filling.{Taken}

-- these arguments before what is filled
abbrev pub behind : List (Option ℤ) → Option (List (Option ℤ)) → Option (List (Option ℤ))
behind given rest = option_map (λ more. given ++ more) rest

behind_two : (given : List (Option ℤ)) (z : ℤ) (rest : Option (List (Option ℤ))) → behind given (option_map (λ more. Some z ∷ more) rest) ≡ behind (given ++ Some z ∷ []) rest
behind_two given z None = refl
behind_two given z (Some more) = ap (λ s. Some s) (sym (append_assoc given (Some z ∷ []) more))

-- one argument more
pub fills_one : (given : List (Option ℤ)) (arg : Option ℤ) (args : List (Option ℤ)) (words : List ℤ) (number : ℤ) (more : List ℤ) → Taken arg words number more
    → behind given (filled (arg ∷ args) words) ≡ behind (given ++ Some number ∷ []) (filled args more)
fills_one given (Some z) args words number more (number_is, more_is) =
    behind_two given z (filled args words)
    ∙ ap (λ (ws : List ℤ). behind (given ++ Some z ∷ []) (filled args ws)) (sym more_is)
    ∙ ap (λ (n : ℤ). behind (given ++ Some n ∷ []) (filled args more)) (sym number_is)
fills_one given None args words number more so =
    ap (λ (ws : List ℤ). behind given (filled (None ∷ args) ws)) so ∙ behind_two given number (filled args more)

-- no word is left
pub lacks_one : (given : List (Option ℤ)) (args : List (Option ℤ)) (words : List ℤ) → words ≡ [] → behind given (filled (None ∷ args) words) ≡ None
lacks_one given args words e = ap (λ (ws : List ℤ). behind given (filled (None ∷ args) ws)) e

-- words are left
pub lefts_over : (given : List (Option ℤ)) (words : List ℤ) → (words ≡ [] → ⊥) → behind given (filled [] words) ≡ None
lefts_over given [] some = absurd (some refl)
lefts_over given (word ∷ words) some = refl

-- one value more
pub one_value : (known : List Known) (value : Known) → numbers_in (known ++ value ∷ []) ≡ numbers_in known ++ numbers_in (value ∷ [])
one_value [] value = refl
one_value (Unknown ∷ known) value = one_value known value
one_value (Num n ∷ known) value = ap (λ ns. n ∷ ns) (one_value known value)
one_value (Null ∷ known) value = one_value known value
