-- The grammar takes the tokens of numbers and addresses.
use Rattle.std.proofs.Common.{◌≡◌, ℕ, ℤ, zero, suc, pos, negsuc, ◌==◌, Bool, true, false, List, [], ◌∷◌, refl, ap}
use Rattle.std.specs.Prelude.{codes, if◌then◌else◌}
use Rattle.std.specs.Fmt.{signed_decimal}
use Rattle.ir_lexer.specs.declared.token.Kind.TheVariants as kind
use Rattle.ir_lexer.specs.Written.{Spelling}
use Rattle.ir_lexer.specs.Texts.{name_of}
use Rattle.ir_types.specs.declared.scalar.Scalar.{Scalar}
use Rattle.ir_types.specs.declared.scalar.Scalar.TheVariants.{I1, I8, I16, I32, I64, Ptr}
use Rattle.ir_types.specs.declared.shape.Ty.{Ty}
use Rattle.ir_types.specs.declared.shape.Ty.TheOpen.{Ty-F}
use Rattle.ir_grammar.specs.declared.shape.Digits.{Digits}
use Rattle.ir_grammar.specs.declared.shape.Shape.TheVariants as is
use Rattle.ir_grammar.specs.declared.shape.Value.TheVariants as val
use Rattle.ir_grammar.specs.declared.grammar.Keep.TheVariants as keep
use Rattle.ir_grammar.specs.declared.grammar.Item.{Item}
use Rattle.ir_grammar.specs.declared.grammar.Item.TheVariants as item
use Rattle.ir_grammar.specs.declared.grammar.Name.TheVariants as the
use Rattle.ir_grammar.specs.Shapes.{at_shape, shape_of}
use Rattle.ir_grammar.specs.Mirrors.Walk.{Taken, settle}
use Rattle.ir_writer.specs.Names.{name_text, name_at}
use Rattle.ir_writer.specs.Words.{Parts, space, word, comma, open_paren, close_paren}
use Rattle.ir_writer.specs.Constants.{integer, symbol, address, number_at}
use Rattle.round_trip.proofs.Grammar.Kept.{Lexemes, scalar_kept, digits_kept, close_paren_kept, integer_kept, symbol_kept, address_kept, number_kept}
use Rattle.round_trip.proofs.Grammar.Parts.{Through, nothing, spaced, keeps, keeps_address, drops}
use Rattle.round_trip.proofs.Grammar.Walking.{Items}

-- Each name that stands in a text is read as the name again.
abbrev pub AreRead : List (List ℕ) → Type 0
AreRead names = (place : ℕ) → name_of (name_text (name_at names place)) ≡ name_at names place

-- ---- numbers

-- an integer at an item that takes integers, true and false
module _ (first : Item) (next : Items) (digits : (d : Digits) → settle (is.Int d) (first ∷ next) ≡ Taken keep.Keeps next)
    (yes_taken : settle (is.Value val.True) (first ∷ next) ≡ Taken keep.Keeps next) (no_taken : settle (is.Value val.False) (first ∷ next) ≡ Taken keep.Keeps next) where
  integer_taken : (s : Scalar) (n : ℕ) → Through (first ∷ next) (integer s n ∷ []) (integer_kept s n ∷ []) next
  integer_taken I1 n = by_test (n == 0)
    where
      by_test : (b : Bool) → Through (first ∷ next) (word (if b then codes "false" else codes "true") ∷ []) ((if b then (is.Value val.False, codes "false") else (is.Value val.True, codes "true")) ∷ []) next
      by_test true = keeps refl refl no_taken (nothing next)
      by_test false = keeps refl refl yes_taken (nothing next)
  integer_taken I8 n = keeps refl refl (digits _) (nothing next)
  integer_taken I16 n = keeps refl refl (digits _) (nothing next)
  integer_taken I32 n = keeps refl refl (digits _) (nothing next)
  integer_taken I64 n = keeps refl refl (digits _) (nothing next)
  integer_taken Ptr n = keeps refl refl (digits _) (nothing next)

-- as a count, an index or a case
pub count_through : (s : Scalar) (n : ℕ) (next : Items) → Through (item.One the.Number ∷ next) (integer s n ∷ []) (integer_kept s n ∷ []) next
count_through s n next = integer_taken (item.One the.Number) next (λ d. refl) refl refl s n

pub number_through : (t : Ty-F Ty) (n : ℕ) (next : Items) → Through (item.One the.Constant ∷ next) (number_at t n) (number_kept t n) next
number_through (Ty-F.One s) n next = integer_taken (item.One the.Constant) next (λ d. refl) refl refl s n
number_through (Ty-F.Array count element) n next = keeps refl refl refl (nothing next)
number_through (Ty-F.Struct fields) n next = keeps refl refl refl (nothing next)

-- ---- addresses

-- an address with an offset that isn't zero
abbrev far_parts : List (List ℕ) → ℕ → List ℕ → Parts
far_parts names place text =
    word (codes "getelementptr") ∷ space ∷ open_paren ∷ word (codes "i8") ∷ comma ∷ space ∷ word (codes "ptr") ∷ space ∷ symbol names place ∷ comma ∷ space
    ∷ word (codes "i64") ∷ space ∷ Spelling kind.Int text ∷ close_paren ∷ []

abbrev far_kept : List (List ℕ) → ℕ → List ℕ → Lexemes
far_kept names place text = (is.Address, codes "getelementptr") ∷ scalar_kept I8 ∷ symbol_kept names place ∷ scalar_kept I64 ∷ digits_kept text ∷ close_paren_kept ∷ []

module _ (names : List (List ℕ)) (read : AreRead names) where
  pub name_shape : (place : ℕ) → shape_of kind.AtName (64 ∷ name_text (name_at names place)) ≡ is.At (at_shape (name_at names place))
  name_shape place = ap (λ name. is.At (at_shape name)) (read place)

  far_through : (place : ℕ) (text : List ℕ) (next : Items) → Through (item.One the.Constant ∷ next) (far_parts names place text) (far_kept names place text) next
  far_through place text next =
      keeps_address refl refl refl
      (spaced (drops refl refl refl (keeps refl refl refl
      (drops refl refl refl (spaced (drops refl refl refl
      (spaced (keeps (name_shape place) refl refl
      (drops refl refl refl (spaced (keeps refl refl refl
      (spaced (keeps refl refl refl (keeps refl refl refl (nothing next)))))))))))))))

  pub address_through : (place : ℕ) (offset : ℤ) (next : Items) → Through (item.One the.Constant ∷ next) (address names place offset) (address_kept names place offset) next
  address_through place (pos zero) next = keeps (name_shape place) refl refl (nothing next)
  address_through place (pos (suc n)) next = far_through place (signed_decimal (pos (suc n))) next
  address_through place (negsuc n) next = far_through place (signed_decimal (negsuc n)) next
