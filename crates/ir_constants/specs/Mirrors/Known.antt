-- Names that are known to stand for a type, so that parts which begin with them spare its comparison.
use Rattle.std.specs.Prelude.{◌≡◌, ℕ, Bool, true, false, bytes_eq, List, [], ◌∷◌, Option, Some, None, IfSome, option_map, option_and_then, if◌then◌else◌}
use Rattle.std.specs.Borrow.{Bor}
use Rattle.ir_types.specs.declared.shape.Ty.{Ty}
use Rattle.ir_grammar.specs.declared.shape.Shape.{Shape}
use Rattle.ir_grammar.specs.declared.shape.Shape.TheVariants as is
use Rattle.ir_grammar.specs.Tokens.{Kept}
use Rattle.ir_scope.specs.Types.{written_type, same_type}

-- how many lexemes at the front spell this type, where it is written there
abbrev pub typed_at : (List ℕ → Option Ty) → Ty → List Kept → Option ℕ
typed_at look ty ks = option_and_then (λ t. if same_type ty t.0 then Some t.1 else None) (written_type look ks)

-- a name as it is written, that stands for this type
abbrev pub StandsFor : (List ℕ → Option Ty) → Ty → List ℕ → Type 0
StandsFor look ty text = typed_at look ty ((is.Local, text) ∷ []) ≡ Some 1

-- the bytes of a name
abbrev pub bytes_of : Option (Bor (List ℕ)) → Option (List ℕ)
bytes_of name = option_map (λ text. text.now) name

-- where a name is known, it stands for this type
abbrev pub IsKnown : (List ℕ → Option Ty) → Ty → Option (Bor (List ℕ)) → Type 0
IsKnown look ty known = IfSome (bytes_of known) (StandsFor look ty)

abbrev pub is_local : Shape → Bool
is_local is.Local = true
is_local _ = false

-- the name at the front, as it is written
abbrev pub front_name : List Kept → Option (List ℕ)
front_name [] = None
front_name (k ∷ ks) = if is_local k.0 then Some k.1 else None

-- whether these are one name
abbrev pub are_one : Option (List ℕ) → Option (List ℕ) → Bool
are_one (Some text) (Some name) = bytes_eq text name
are_one _ _ = false
