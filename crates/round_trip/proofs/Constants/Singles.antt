-- Constants without parts that are written are read again.
use Rattle.std.proofs.Common.{◌≡◌, ◌≢◌, ◌∙◌, ℕ, ℤ, pos, negsuc, zero, suc, ◌+◌, ◌%◌, ◌^◌, ◌<◌, true, cond, ◌&&◌, ◌==◌, nat_eq, nat_lt, codes, List, [], ◌∷◌, ◌++◌, length, drop, Option, Some, None, option_map, refl, sym, ap, arith, eqb}
use Rattle.std.specs.Prelude.{All, AllPairs}
use Rattle.std.specs.Fmt.{decimal, signed_decimal}
use Rattle.std.specs.List.{list_all}
use Rattle.std.proofs.lemmas.Bool.{false≢true, and_parts, and_from, cond-true, cond_both, ltb-true, eqb-true, eq-eqb}
use Rattle.std.proofs.lemmas.List.Elements.{All-cons}
use Rattle.ir_types.specs.declared.scalar.Scalar.{Scalar}
use Rattle.ir_types.specs.declared.scalar.Scalar.TheVariants.{I1, I8, I16, I32, I64, Ptr}
use Rattle.ir_types.specs.declared.shape.Ty.{Ty, out-Ty}
use Rattle.ir_types.specs.declared.shape.Ty.TheOpen.{Ty-F}
use Rattle.ir_types.specs.Scalars.{signed_value}
use Rattle.ir_types.specs.Names.{IsName}
use Rattle.ir_syntax.specs.declared.constant.Const.{Const}
use Rattle.ir_syntax.specs.declared.constant.Const.TheBlock as const
use Rattle.ir_syntax.specs.Suits.{is_pointer, is_byte, takes_number, takes_address, takes_zero, takes_text}
use Rattle.ir_grammar.specs.declared.shape.Shape.TheVariants as is
use Rattle.ir_grammar.specs.declared.shape.Value.{Value}
use Rattle.ir_grammar.specs.declared.shape.Value.TheVariants as val
use Rattle.ir_grammar.specs.Tokens.{Kept}
use Rattle.ir_scope.specs.Runs.{behind}
use Rattle.ir_scope.specs.Scopes.{Env}
use Rattle.ir_scope.specs.Integers.{number}
use Rattle.ir_constants.specs.Constants.{Place, single, is_pointer_type, address_of, constant_within}
use Rattle.ir_writer.specs.Names.{quoted}
use Rattle.ir_writer.specs.Constants.{signed_text}
use Rattle.ir_writer.specs.Ranges.{AreBytes, is_offset}
use Rattle.round_trip.proofs.Tokens.Quoted.{quoted_back}
use Rattle.round_trip.proofs.Grammar.Kept.{Lexemes, scalar_kept, digits_kept, close_paren_kept, integer_kept, number_kept, symbol_kept, address_kept}
use Rattle.round_trip.proofs.Constants.Numbers.{unsigned, number_read, symbol_read}
use Rattle.round_trip.proofs.Constants.Addresses.{address_back, moved_back}

-- an address with an offset
abbrev moved_kept : List (List ℕ) → ℕ → ℤ → Lexemes
moved_kept names place offset =
    (is.Address, codes "getelementptr") ∷ scalar_kept I8 ∷ symbol_kept names place ∷ scalar_kept I64 ∷ digits_kept (signed_decimal offset) ∷ close_paren_kept ∷ []

-- ---- integers

-- A lexeme that spells a constant alone, which is its number at a scalar.
abbrev IsNumber : Kept → Type 0
IsNumber k =
    ((env : Env) (depth : ℕ) (ty : Ty) (rest : Lexemes) → constant_within env depth ty (k ∷ rest) ≡ option_map (λ c. (c, 1)) (single env (out-Ty ty) k))
    × ((env : Env) (s : Scalar) → single env (Ty-F.One s) k ≡ option_map (λ n. const.Int n) (number s k))

digits_alone : (text : List ℕ) (env : Env) (depth : ℕ) (ty : Ty) (rest : Lexemes) → constant_within env depth ty (digits_kept text ∷ rest) ≡ option_map (λ c. (c, 1)) (single env (out-Ty ty) (digits_kept text))
digits_alone text env zero ty rest = refl
digits_alone text env (suc depth) ty rest = refl

digits_number : (text : List ℕ) → IsNumber (digits_kept text)
digits_number text = (digits_alone text, λ env s. refl)

value_alone : (value : Value) (text : List ℕ) (env : Env) (depth : ℕ) (ty : Ty) (rest : Lexemes) → constant_within env depth ty ((is.Value value, text) ∷ rest) ≡ option_map (λ c. (c, 1)) (single env (out-Ty ty) (is.Value value, text))
value_alone value text env zero ty rest = refl
value_alone value text env (suc depth) ty rest = refl

integer_number : (s : Scalar) (n : ℕ) → IsNumber (integer_kept s n)
integer_number I1 n =
    cond_both (eqb n 0) (is.Value val.False, codes "false") (is.Value val.True, codes "true") IsNumber
    (λ nought. (value_alone val.False (codes "false"), λ env s. refl)) (λ more. (value_alone val.True (codes "true"), λ env s. refl))
integer_number I8 n = digits_number (signed_text (2 ^ 7) n)
integer_number I16 n = digits_number (signed_text (2 ^ 15) n)
integer_number I32 n = digits_number (signed_text (2 ^ 31) n)
integer_number I64 n = digits_number (signed_text (2 ^ 63) n)
integer_number Ptr n = digits_number (decimal n)

module _ (env : Env) where
  -- These lexemes are read as this constant.
  abbrev pub IsReadAt : ℕ → Ty → Const → Lexemes → Type 0
  IsReadAt depth ty c ks = (rest : Lexemes) → constant_within env depth ty (ks ++ rest) ≡ Some (c, length ks)

  -- a lexeme that spells a constant alone
  alone : (depth : ℕ) (ty : Ty) (c : Const) (k : Kept) (x : Ty-F Ty) → out-Ty ty ≡ x → ((rest : Lexemes) → constant_within env depth ty (k ∷ rest) ≡ option_map (λ c. (c, 1)) (single env (out-Ty ty) k)) → single env x k ≡ Some c → IsReadAt depth ty c (k ∷ [])
  alone depth ty c k x made own here rest = own rest ∙ ap (λ z. option_map (λ c. (c, 1)) (single env z k)) made ∙ ap (option_map (λ c. (c, 1))) here

  pub int_back : (depth n : ℕ) (ty : Ty) (x : Ty-F Ty) → out-Ty ty ≡ x → takes_number x n ≡ true → IsReadAt depth ty (const.Int n) (number_kept x n)
  int_back depth n ty (Ty-F.One s) made h =
      let plain = integer_number s n in
      alone depth ty (const.Int n) (integer_kept s n) (Ty-F.One s) made (plain.0 env depth ty) (plain.1 env s ∙ ap (option_map (λ m. const.Int m)) (number_read s n h))
  int_back depth n ty (Ty-F.Array count element) made h = absurd (false≢true h)
  int_back depth n ty (Ty-F.Struct fields) made h = absurd (false≢true h)

  -- ---- constants that a word spells

  null_at : (x : Ty-F Ty) → takes_address x ≡ true → single env x (is.Value val.Null, codes "null") ≡ Some const.Null
  null_at (Ty-F.One s) h = cond-true (is_pointer s) (Some const.Null) None h
  null_at (Ty-F.Array count element) h = absurd (false≢true h)
  null_at (Ty-F.Struct fields) h = absurd (false≢true h)

  pub null_back : (depth : ℕ) (ty : Ty) → takes_address (out-Ty ty) ≡ true → IsReadAt depth ty const.Null ((is.Value val.Null, codes "null") ∷ [])
  null_back depth ty h = alone depth ty const.Null (is.Value val.Null, codes "null") (out-Ty ty) refl (value_alone val.Null (codes "null") env depth ty) (null_at (out-Ty ty) h)

  pub undef_back : (depth : ℕ) (ty : Ty) → IsReadAt depth ty const.Undef ((is.Value val.Undef, codes "undef") ∷ [])
  undef_back depth ty = alone depth ty const.Undef (is.Value val.Undef, codes "undef") (out-Ty ty) refl (value_alone val.Undef (codes "undef") env depth ty) refl

  pub poison_back : (depth : ℕ) (ty : Ty) → IsReadAt depth ty const.Poison ((is.Value val.Poison, codes "poison") ∷ [])
  poison_back depth ty = alone depth ty const.Poison (is.Value val.Poison, codes "poison") (out-Ty ty) refl (value_alone val.Poison (codes "poison") env depth ty) refl

  zero_at : (x : Ty-F Ty) → takes_zero x ≡ true → single env x (is.Value val.Zero, codes "zeroinitializer") ≡ Some const.Zero
  zero_at (Ty-F.One s) h = absurd (false≢true h)
  zero_at (Ty-F.Array count element) h = refl
  zero_at (Ty-F.Struct fields) h = refl

  pub zero_back : (depth : ℕ) (ty : Ty) → takes_zero (out-Ty ty) ≡ true → IsReadAt depth ty const.Zero ((is.Value val.Zero, codes "zeroinitializer") ∷ [])
  zero_back depth ty h = alone depth ty const.Zero (is.Value val.Zero, codes "zeroinitializer") (out-Ty ty) refl (value_alone val.Zero (codes "zeroinitializer") env depth ty) (zero_at (out-Ty ty) h)

  -- ---- texts

  are_bytes : (bytes : List ℕ) → list_all (λ byte. nat_lt byte 256) bytes ≡ true → AreBytes bytes
  are_bytes [] h = λ k d lt. absurd (omega (arith, lt))
  are_bytes (b ∷ bs) h =
      let both = and_parts (nat_lt b 256) (list_all (λ byte. nat_lt byte 256) bs) h in
      All-cons (λ byte. byte < 256) b bs (ltb-true b 256 both.0) (are_bytes bs both.1)

  text_alone : (text : List ℕ) (depth : ℕ) (ty : Ty) (rest : Lexemes) → constant_within env depth ty ((is.CStr, text) ∷ rest) ≡ option_map (λ c. (c, 1)) (single env (out-Ty ty) (is.CStr, text))
  text_alone text zero ty rest = refl
  text_alone text (suc depth) ty rest = refl

  abbrev text_by : ℕ → Ty → List ℕ → Option Const
  text_by count element bytes = cond (is_byte (out-Ty element) && nat_eq (length bytes) count) (Some (const.Text bytes)) None

  text_at : (bytes : List ℕ) → list_all (λ byte. nat_lt byte 256) bytes ≡ true → (x : Ty-F Ty) → takes_text x (length bytes) ≡ true → single env x (is.CStr, 99 ∷ quoted bytes) ≡ Some (const.Text bytes)
  text_at bytes within (Ty-F.One s) h = absurd (false≢true h)
  text_at bytes within (Ty-F.Struct fields) h = absurd (false≢true h)
  text_at bytes within (Ty-F.Array count element) h =
      let both = and_parts (is_byte (out-Ty element)) (count == length bytes) h in
      let same : nat_eq (length bytes) count ≡ true = eq-eqb (length bytes) count (sym (eqb-true count (length bytes) both.1)) in
      ap (text_by count element) (quoted_back bytes (are_bytes bytes within))
      ∙ cond-true (is_byte (out-Ty element) && nat_eq (length bytes) count) (Some (const.Text bytes)) None (and_from (is_byte (out-Ty element)) (nat_eq (length bytes) count) both.0 same)

  pub text_back : (depth : ℕ) (bytes : List ℕ) (ty : Ty) → list_all (λ byte. nat_lt byte 256) bytes ≡ true → takes_text (out-Ty ty) (length bytes) ≡ true → IsReadAt depth ty (const.Text bytes) ((is.CStr, 99 ∷ quoted bytes) ∷ [])
  text_back depth bytes ty within h = alone depth ty (const.Text bytes) (is.CStr, 99 ∷ quoted bytes) (out-Ty ty) refl (text_alone (99 ∷ quoted bytes) depth ty) (text_at bytes within (out-Ty ty) h)

  -- ---- addresses

  module _ (distinct : AllPairs (λ a b. a ≢ b) env.symbols) (named : All IsName env.symbols) (bytes : All AreBytes env.symbols) where
    symbol_alone : (place depth : ℕ) (ty : Ty) (rest : Lexemes) → constant_within env depth ty (symbol_kept env.symbols place ∷ rest) ≡ option_map (λ c. (c, 1)) (single env (out-Ty ty) (symbol_kept env.symbols place))
    symbol_alone place zero ty rest = refl
    symbol_alone place (suc depth) ty rest = refl

    symbol_at : (place : ℕ) → place < length env.symbols → (x : Ty-F Ty) → takes_address x ≡ true → single env x (symbol_kept env.symbols place) ≡ Some (const.Addr place (pos 0))
    symbol_at place within (Ty-F.Array count element) h = absurd (false≢true h)
    symbol_at place within (Ty-F.Struct fields) h = absurd (false≢true h)
    symbol_at place within (Ty-F.One s) h =
        ap (λ found. cond (is_pointer s) (option_map (λ k. const.Addr k (pos 0)) found) None) (symbol_read env.symbols place distinct named bytes within)
        ∙ cond-true (is_pointer s) (Some (const.Addr place (pos 0))) None h

    pointer_takes : (x : Ty-F Ty) → takes_address x ≡ true → is_pointer_type x ≡ true
    pointer_takes (Ty-F.One s) h = h
    pointer_takes (Ty-F.Array count element) h = absurd (false≢true h)
    pointer_takes (Ty-F.Struct fields) h = absurd (false≢true h)

    abbrev pointer_by : Ty → Option (Place × ℕ) → Option (Const × ℕ)
    pointer_by ty found = behind 1 (cond (is_pointer_type (out-Ty ty)) (option_map (λ f. (const.Addr f.0.0 (signed_value I64 f.0.1), f.1)) found) None)

    moved_alone : (offset : ℤ) (depth place : ℕ) (ty : Ty) → is_offset offset ≡ true → place < length env.symbols → takes_address (out-Ty ty) ≡ true → (rest : Lexemes) →
        constant_within env depth ty (moved_kept env.symbols place offset ++ rest) ≡ Some (const.Addr place offset, 6)
    moved_alone offset depth place ty h within takes rest =
        at_any depth
        ∙ ap (pointer_by ty) (address_back env 63 place offset rest distinct named bytes within h)
        ∙ ap (behind 1) (cond-true (is_pointer_type (out-Ty ty)) (Some (const.Addr place (signed_value I64 ((0 + unsigned offset) % 2 ^ 64)), 5)) None (pointer_takes (out-Ty ty) takes))
        ∙ ap (λ z. Some (const.Addr place z, 6)) (moved_back offset h)
      where
        at_any : (depth : ℕ) → constant_within env depth ty (moved_kept env.symbols place offset ++ rest) ≡ behind 1 (address_of env (out-Ty ty) (drop 1 (moved_kept env.symbols place offset ++ rest)))
        at_any zero = refl
        at_any (suc depth) = refl

    pub addr_back : (offset : ℤ) (depth place : ℕ) (ty : Ty) → is_offset offset ≡ true → place < length env.symbols → takes_address (out-Ty ty) ≡ true → IsReadAt depth ty (const.Addr place offset) (address_kept env.symbols place offset)
    addr_back (pos zero) depth place ty h within takes rest = alone depth ty (const.Addr place (pos 0)) (symbol_kept env.symbols place) (out-Ty ty) refl (symbol_alone place depth ty) (symbol_at place within (out-Ty ty) takes) rest
    addr_back (pos (suc n)) depth place ty h within takes rest = moved_alone (pos (suc n)) depth place ty h within takes rest
    addr_back (negsuc n) depth place ty h within takes rest = moved_alone (negsuc n) depth place ty h within takes rest
