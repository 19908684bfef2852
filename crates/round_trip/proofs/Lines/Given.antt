-- What lines need to be read again, from constants, types, numbers and names that are. A callee that is found to be an
-- intrinsic is one by the names of the items, and no written name is that of debug information.
use Rattle.std.proofs.Common.{◌≡◌, ◌∙◌, ℕ, zero, suc, pos, negsuc, inl, inr, Bool, true, false, cond, ◌||◌, bytes_eq, codes, List, [], ◌∷◌, ◌++◌, length, map, Option, Some, None, option_map, refl, sym, ap}
use Rattle.std.specs.Prelude.{All, slice_get}
use Rattle.std.proofs.lemmas.Bool.{false≢true, or_cases, eqb-true}
use Rattle.std.proofs.lemmas.Slice.Eq.{bytes_eq-Decides}
use Rattle.std.proofs.lemmas.Option.{slice_get-map}
use Rattle.std.proofs.lemmas.List.Elements.{All-head, All-tail}
use Rattle.ir_types.specs.declared.scalar.Scalar.{Scalar}
use Rattle.ir_types.specs.declared.shape.Ty.{Ty}
use Rattle.ir_syntax.specs.declared.constant.Const.{Const, out-Const}
use Rattle.ir_syntax.specs.declared.constant.Const.TheOpen.{Const-F}
use Rattle.ir_syntax.specs.declared.constant.Operand.{Operand}
use Rattle.ir_syntax.specs.declared.constant.Operand.TheVariants as operand
use Rattle.ir_syntax.specs.declared.item.Item.{Item}
use Rattle.ir_syntax.specs.Suits.{IsType, is_number_of}
use Rattle.ir_syntax.specs.FormedBody.{Places, is_intrinsic, is_intrinsic_item, is_intrinsic_address, names_intrinsic, item_name}
use Rattle.name_table.specs.Places.{place_among}
use Rattle.ir_grammar.specs.Shapes.{at_shape}
use Rattle.ir_scope.specs.Scopes.{is_at, is_intrinsic_place}
use Rattle.ir_scope.specs.Integers.{number}
use Rattle.ir_scope.specs.Types.{written_type}
use Rattle.ir_operands.specs.Operands.{Names}
use Rattle.ir_calls.specs.Calls.{is_intrinsic_constant, calls_intrinsic}
use Rattle.ir_writer.specs.Ranges.{is_type_in_range}
use Rattle.round_trip.proofs.Grammar.Kept.{Lexemes, type_kept, integer_kept}
use Rattle.round_trip.proofs.Grammar.Operands.{is_debug}
use Rattle.round_trip.proofs.Lines.Operands.{NoDebug}
use Rattle.round_trip.proofs.Lines.Names.{NamesBack, ReadsBack, operand_back, block_back}

-- A name stands where it is found.
found_at : (name : List ℕ) (names : List (List ℕ)) (place : ℕ) → place_among name names ≡ Some place → slice_get names place ≡ Some name
found_at name [] place e = cc
found_at name (n ∷ ns) place e = cases (bytes_eq name n) refl e (λ k. found_at name ns k)
  where
    later : (found : Option ℕ) → option_map (λ k. suc k) found ≡ Some place → ((k : ℕ) → found ≡ Some k → slice_get ns k ≡ Some name) → slice_get (n ∷ ns) place ≡ Some name
    later None e next = cc
    later (Some k) e next = let same : suc k ≡ place = cc in ap (slice_get (n ∷ ns)) (sym same) ∙ next k refl

    cases : (b : Bool) → bytes_eq name n ≡ b → cond b (Some 0) (option_map (λ k. suc k) (place_among name ns)) ≡ Some place → ((k : ℕ) → place_among name ns ≡ Some k → slice_get ns k ≡ Some name) →
        slice_get (n ∷ ns) place ≡ Some name
    cases true same e next = let first : 0 ≡ place = cc in ap (slice_get (n ∷ ns)) (sym first) ∙ ap (λ x. Some x) (sym ((bytes_eq-Decides name n).0 same))
    cases false other e next = later (place_among name ns) e next

at_place : (found : Option ℕ) (place : ℕ) → is_at found place ≡ true → found ≡ Some place
at_place None place e = absurd (false≢true e)
at_place (Some k) place e = ap (λ k. Some k) (eqb-true k place e)

module _ (items : List Item) (symbols : List (List ℕ)) (same : symbols ≡ map item_name items) where
  item_is : (word : List ℕ) (found : Option Item) → option_map item_name found ≡ Some word → is_intrinsic word ≡ true → is_intrinsic_item found ≡ true
  item_is word None e intrinsic = cc
  item_is word (Some i) e intrinsic = let name : item_name i ≡ word = cc in ap is_intrinsic name ∙ intrinsic

  word_at : (word : List ℕ) (place : ℕ) → is_intrinsic word ≡ true → is_at (place_among word symbols) place ≡ true → is_intrinsic_item (slice_get items place) ≡ true
  word_at word place intrinsic e =
      item_is word (slice_get items place)
      (sym (slice_get-map item_name items place) ∙ ap (λ ns. slice_get ns place) (sym same) ∙ found_at word symbols place (at_place (place_among word symbols) place e))
      intrinsic

  place_is : (place : ℕ) → is_intrinsic_place symbols place ≡ true → is_intrinsic_item (slice_get items place) ≡ true
  place_is place e =
      elim (or_cases first (second || (third || false)) e) [
        | inl a ↦ word_at (codes "llvm.memcpy.p0.p0.i64") place refl a
        | inr f ↦ elim (or_cases second (third || false) f) [
          | inl b ↦ word_at (codes "llvm.memmove.p0.p0.i64") place refl b
          | inr g ↦ elim (or_cases third false g) [
            | inl c ↦ word_at (codes "llvm.memset.p0.i64") place refl c
            | inr d ↦ absurd (false≢true d)
          ]
        ]
      ]
    where
      first : Bool
      first = is_at (place_among (codes "llvm.memcpy.p0.p0.i64") symbols) place

      second : Bool
      second = is_at (place_among (codes "llvm.memmove.p0.p0.i64") symbols) place

      third : Bool
      third = is_at (place_among (codes "llvm.memset.p0.i64") symbols) place

  constant_is : (c : Const-F Const) → is_intrinsic_constant symbols c ≡ true → is_intrinsic_address items c ≡ true
  constant_is (Const-F.Addr place (pos zero)) e = place_is place e
  constant_is (Const-F.Addr place (pos (suc n))) e = absurd (false≢true e)
  constant_is (Const-F.Addr place (negsuc n)) e = absurd (false≢true e)
  constant_is (Const-F.Int n) e = absurd (false≢true e)
  constant_is Const-F.Null e = absurd (false≢true e)
  constant_is Const-F.Undef e = absurd (false≢true e)
  constant_is Const-F.Poison e = absurd (false≢true e)
  constant_is Const-F.Zero e = absurd (false≢true e)
  constant_is (Const-F.Text bytes) e = absurd (false≢true e)
  constant_is (Const-F.Many parts) e = absurd (false≢true e)

  pub calls_are_named : (callee : Operand) → calls_intrinsic symbols callee ≡ true → names_intrinsic items callee ≡ true
  calls_are_named (operand.Param k) e = absurd (false≢true e)
  calls_are_named (operand.Reg k) e = absurd (false≢true e)
  calls_are_named (operand.Const c) e = constant_is (out-Const c) e

-- Where no name is one of debug information, none is at any place.
pub no_debug : (names : List (List ℕ)) → All (λ name. is_debug (at_shape name) ≡ false) names → NoDebug names
no_debug [] are place = refl
no_debug (name ∷ names) are zero = All-head (λ name. is_debug (at_shape name) ≡ false) name names are
no_debug (name ∷ names) are (suc place) = no_debug names (All-tail (λ name. is_debug (at_shape name) ≡ false) name names are) place

pub reads_back : (names : List (List ℕ)) (N : Names) (places : Places) → NamesBack names N places →
    ((ty : Ty) → IsType ty → is_type_in_range ty ≡ true → (rest : Lexemes) → written_type N.env.types (type_kept ty ++ rest) ≡ Some (ty, length (type_kept ty))) →
    ((ty : Scalar) (n : ℕ) → is_number_of ty n ≡ true → number ty (integer_kept ty n) ≡ Some n) →
    N.env.symbols ≡ map item_name places.items → All (λ name. is_debug (at_shape name) ≡ false) names → ReadsBack names N places
reads_back names N places back types numbers same are = record {
  operands = operand_back names N places back;
  blocks = block_back names N places back;
  types = types;
  numbers = numbers;
  intrinsics = calls_are_named places.items N.env.symbols same;
  plain = no_debug names are;
}
