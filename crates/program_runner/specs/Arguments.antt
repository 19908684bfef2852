-- The arguments that an entry is given: the manifest's, and words for those that the manifest leaves unknown.
use Rattle.std.specs.Prelude.{◌≡◌, ℕ, ℤ, List, [], ◌∷◌, Option, None, Some, option_map}
use Rattle.ir_types.specs.declared.scalar.Known.{Known}
use Rattle.ir_types.specs.declared.scalar.Known.TheVariants.{Unknown, Num, Null}
use Rattle.ir_syntax.specs.declared.item.Func.{Func}
use Rattle.ir_syntax.specs.Programs.{arguments_of}
use Rattle.ir_syntax.specs.Refusals.{FitsEntry}

-- The manifest's arguments, with a word, in order, for each that it leaves unknown: none where there are too few or too many.
abbrev pub filled : List (Option ℤ) → List ℤ → Option (List (Option ℤ))
filled [] [] = Some []
filled [] (word ∷ words) = None
filled (Some z ∷ args) words = option_map (λ given. Some z ∷ given) (filled args words)
filled (None ∷ args) [] = None
filled (None ∷ args) (word ∷ words) = option_map (λ given. Some word ∷ given) (filled args words)

-- the numbers among what is known
abbrev pub numbers_in : List Known → List ℕ
numbers_in [] = []
numbers_in (Unknown ∷ known) = numbers_in known
numbers_in (Num n ∷ known) = n ∷ numbers_in known
numbers_in (Null ∷ known) = numbers_in known

-- With the words, there is one argument for each parameter, in its range, and these are their numbers modulo 2^w.
pub record TakesWords (func : Func) (args : List (Option ℤ)) (words : List ℤ) (numbers : List ℕ) : Type 0 where
  pub given : List (Option ℤ)
  pub filled_are : filled args words ≡ Some given
  pub fit : FitsEntry given func
  pub numbers_are : numbers ≡ numbers_in (arguments_of func.params given)
