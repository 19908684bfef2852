-- Constants and operands that are read of bytes are in range.
use Rattle.std.proofs.Common.{◌≡◌, ◌∙◌, ℕ, zero, suc, pos, negsuc, ◌-ℤ◌, ◌+◌, ◌-◌, ◌%◌, ◌^◌, ◌<◌, ◌≤◌, Bool, true, false, not, cond, ◌&&◌, nat_eq, nat_lt, List, [], ◌∷◌, length, drop, Option, Some, None, option_map, option_and_then, refl, ap, sym, arith}
use Rattle.std.specs.Prelude.{All, IfSome, IsTrue}
use Rattle.std.proofs.lemmas.Bool.{lt-ltb, ltb-false}
use Rattle.std.proofs.lemmas.Int.{ints}
use Rattle.std.proofs.lemmas.List.Elements.{All-nil, All-cons, All-weaker}
use Rattle.std.proofs.lemmas.List.Folds.{list_all-map}
use Rattle.std.proofs.lemmas.List.Sums.{list_all-from_AllPass}
use Rattle.ir_lexer.specs.Texts.{name_of, inside}
use Rattle.ir_types.specs.declared.scalar.Scalar.{Scalar}
use Rattle.ir_types.specs.declared.scalar.Scalar.TheVariants.{I64}
use Rattle.ir_types.specs.declared.shape.Ty.{Ty, out-Ty}
use Rattle.ir_types.specs.declared.shape.Ty.TheOpen.{Ty-F}
use Rattle.ir_types.specs.declared.shape.Ty.TheBlock.{One}
use Rattle.ir_types.specs.Scalars.{signed_value}
use Rattle.ir_syntax.specs.declared.constant.Const.{Const}
use Rattle.ir_syntax.specs.declared.constant.Const.TheOpen.{Const-F}
use Rattle.ir_syntax.specs.declared.constant.Const.TheBlock as const
use Rattle.ir_syntax.specs.declared.constant.Const.TheViews.{Many}
use Rattle.ir_syntax.specs.declared.constant.Const.TheVariants.{rolls-Int, rolls-Null, rolls-Undef, rolls-Poison, rolls-Zero}
use Rattle.ir_syntax.specs.declared.constant.Const.TheFolds.{fold-roll-Const}
use Rattle.ir_syntax.specs.declared.constant.Operand.{Operand}
use Rattle.ir_syntax.specs.declared.constant.Operand.TheVariants as operand
use Rattle.ir_syntax.specs.Suits.{is_byte, is_pointer}
use Rattle.ir_grammar.specs.declared.shape.Shape.{Shape}
use Rattle.ir_grammar.specs.declared.shape.Shape.TheVariants as is
use Rattle.ir_grammar.specs.declared.shape.Value.TheVariants as val
use Rattle.ir_grammar.specs.Tokens.{Kept}
use Rattle.ir_scope.specs.Runs.{Reading, run}
use Rattle.ir_scope.specs.Integers.{number}
use Rattle.ir_scope.specs.Scopes.{Env}
use Rattle.ir_scope.specs.Types.{written_type, same_type, is_close_brace}
use Rattle.ir_constants.specs.Constants.{symbol_at, is_close_square, address_at, zero_of, scalar_of, text_bytes, array_of, struct_of, single, is_pointer_type, part_at, parts_at, elements_at, fields_at, address_of, constant_within, constant_at}
use Rattle.ir_locals.specs.declared.local.Local.{Local}
use Rattle.ir_locals.specs.declared.local.Local.TheVariants.{Param, Reg, Block}
use Rattle.ir_locals.specs.Locals.{local_name, local_among, operand_in}
use Rattle.ir_operands.specs.Operands.{Names, operand_at}
use Rattle.ir_operands.proofs.FormingReadings.{IsRead, Any, read-any, read-behind, read-map, read-next, read-where, read-closed}
use Rattle.ir_writer.specs.Ranges.{AreBytes, is_offset, constant_in_range, is_constant_in_range, is_operand_in_range}
use Rattle.round_trip.proofs.Constants.Forms.{in_range-Addr, in_range-Text, in_range-Many}
use Rattle.round_trip.proofs.Ranges.Escapes.{dropped_bytes, inside_bytes, unescaped_bytes}
use Rattle.round_trip.proofs.Ranges.Texts.{IsOfBytes, LexemesAreBytes, first_lexeme, lexemes_behind, dropped_lexemes}
use Rattle.round_trip.proofs.Ranges.Types.{made_in}

-- What holds of each part that is read of bytes holds of all parts of a run.
pub run_in : {X : Type 0} (P : X → Type 0) (begins : Shape → Bool) (part : Reading X) → ((ks : List Kept) → LexemesAreBytes ks → IsRead P (part ks)) →
    (skipped : ℕ) (ks : List Kept) → LexemesAreBytes ks → IsRead (All P) (run begins part skipped ks)
run_in P begins part h skipped [] bytes = All-nil P
run_in P begins part h zero (k ∷ ks) bytes = cases (λ n. run_in P begins part h n ks (lexemes_behind k ks bytes)) (begins k.0)
  where
    cases : ((n : ℕ) → IsRead (All P) (run begins part n ks)) → (b : Bool) → IsRead (All P) (cond b (option_and_then (λ f. option_map (λ rest. (f.0 ∷ rest.0, f.1 + rest.1)) (run begins part (f.1 - 1) ks)) (part (k ∷ ks))) (Some ([], 0)))
    cases again true =
        read-next P (All P) _ (part (k ∷ ks)) (h (k ∷ ks) bytes)
        (λ f p. read-map (All P) (All P) _ (run begins part (f.1 - 1) ks) (again (f.1 - 1)) (λ rest ps. All-cons P f.0 rest.0 p ps))
    cases again false = All-nil P
run_in P begins part h (suc skipped) (k ∷ ks) bytes = run_in P begins part h skipped ks (lexemes_behind k ks bytes)

-- ---- forms of constants

abbrev pub IsConstantIn : Const → Type 0
IsConstantIn c = IsTrue (is_constant_in_range c)

int_in : (n : ℕ) → IsConstantIn (const.Int n)
unfolding is_constant_in_range
int_in n = ap is_constant_in_range (sym (rolls-Int n)) ∙ fold-roll-Const Bool constant_in_range (Const-F.Int n)

null_in : IsConstantIn const.Null
unfolding is_constant_in_range
null_in = ap is_constant_in_range (sym rolls-Null) ∙ fold-roll-Const Bool constant_in_range Const-F.Null

undef_in : IsConstantIn const.Undef
unfolding is_constant_in_range
undef_in = ap is_constant_in_range (sym rolls-Undef) ∙ fold-roll-Const Bool constant_in_range Const-F.Undef

poison_in : IsConstantIn const.Poison
unfolding is_constant_in_range
poison_in = ap is_constant_in_range (sym rolls-Poison) ∙ fold-roll-Const Bool constant_in_range Const-F.Poison

zero_in : IsConstantIn const.Zero
unfolding is_constant_in_range
zero_in = ap is_constant_in_range (sym rolls-Zero) ∙ fold-roll-Const Bool constant_in_range Const-F.Zero

-- Each signed number is one of 64 bits.
offset_in : (n : ℕ) → is_offset (signed_value I64 n) ≡ true
offset_in n = cases (nat_lt (n % 2 ^ 64) (2 ^ 63)) refl
  where
    cases : (b : Bool) → nat_lt (n % 2 ^ 64) (2 ^ 63) ≡ b → is_offset (cond b (pos (n % 2 ^ 64)) (pos (n % 2 ^ 64) -ℤ pos (2 ^ 64))) ≡ true
    cases true e = e
    cases false e =
        let most : 2 ^ 63 ≤ n % 2 ^ 64 = ltb-false (n % 2 ^ 64) (2 ^ 63) e in
        let below : pos (n % 2 ^ 64) -ℤ pos (2 ^ 64) ≡ negsuc (2 ^ 64 - n % 2 ^ 64 - 1) = omega (arith, ints) in
        ap is_offset below ∙ lt-ltb (2 ^ 64 - n % 2 ^ 64 - 1) (2 ^ 63) (omega (arith, most))

text_in : (bytes : List ℕ) → AreBytes bytes → IsConstantIn (const.Text bytes)
text_in bytes all =
    in_range-Text bytes ∙ list_all-from_AllPass (λ byte. nat_lt byte 256) bytes (All-weaker (λ byte. byte < 256) (λ byte. nat_lt byte 256 ≡ true) (λ byte less. lt-ltb byte 256 less) bytes all)

many_in : (parts : List Const) → All IsConstantIn parts → IsConstantIn (Many parts)
many_in parts all = in_range-Many parts ∙ list_all-map (λ (b : Bool). b) is_constant_in_range parts ∙ list_all-from_AllPass is_constant_in_range parts all

-- ---- constants of one lexeme

found_where : (b : Bool) (found : Option Const) → IfSome found IsConstantIn → IfSome (cond b found None) IsConstantIn
found_where true found h = h
found_where false found h = tt

found_made : {X : Type 0} (make : X → Const) (found : Option X) → ((x : X) → IsConstantIn (make x)) → IfSome (option_map make found) IsConstantIn
found_made make None h = tt
found_made make (Some x) h = h x

zero_of_in : (s : Scalar) → IsConstantIn (zero_of s)
zero_of_in s = cases (is_pointer s)
  where
    cases : (b : Bool) → IsConstantIn (cond b const.Null (const.Int 0))
    cases true = null_in
    cases false = int_in 0

module _ (env : Env) where
  scalar_in : (s : Scalar) (k : Kept) → IfSome (scalar_of env s k) IsConstantIn
  scalar_in s (is.Value val.Null, text) = found_where (is_pointer s) (Some const.Null) null_in
  scalar_in s (is.Value val.Zero, text) = zero_of_in s
  scalar_in s (is.At kind, text) =
      found_where (is_pointer s) (option_map (λ place. const.Addr place (pos 0)) (symbol_at env.symbols (name_of (drop 1 text))))
      (found_made (λ place. const.Addr place (pos 0)) (symbol_at env.symbols (name_of (drop 1 text))) (λ place. in_range-Addr place (pos 0)))
  scalar_in s (shape, text) = found_made (λ n. const.Int n) (number s (shape, text)) int_in

  array_in : (count : ℕ) (element : Ty) (k : Kept) → IsOfBytes k → IfSome (array_of count element k) IsConstantIn
  array_in count element (is.Value val.Zero, text) bytes = zero_in
  array_in count element (is.CStr, text) bytes =
      found_where (is_byte (out-Ty element) && nat_eq (length (text_bytes text)) count) (Some (const.Text (text_bytes text))) (text_in (text_bytes text) (unescaped_bytes (inside (drop 1 text)) (inside_bytes (drop 1 text) (dropped_bytes 1 text bytes))))
  array_in count element (shape, text) bytes = tt

  struct_in : (k : Kept) → IfSome (struct_of k) IsConstantIn
  struct_in (is.Value val.Zero, text) = zero_in
  struct_in (shape, text) = tt

  single_in : (t : Ty-F Ty) (k : Kept) → IsOfBytes k → IfSome (single env t k) IsConstantIn
  single_in t (is.Value val.Undef, text) bytes = undef_in
  single_in t (is.Value val.Poison, text) bytes = poison_in
  single_in (Ty-F.One s) (shape, text) bytes = scalar_in s (shape, text)
  single_in (Ty-F.Array count element) (shape, text) bytes = array_in count element (shape, text) bytes
  single_in (Ty-F.Struct fields) (shape, text) bytes = struct_in (shape, text)

  -- ---- addresses

  address_in : (t : Ty-F Ty) (ks : List Kept) → IsRead IsConstantIn (address_of env t ks)
  address_in t ks =
      read-where IsConstantIn (is_pointer_type t) _
      (λ e. read-map Any IsConstantIn _ (address_at env 64 ks) (read-any _) (λ f any. in_range-Addr f.0.0 (signed_value I64 f.0.1) ∙ offset_in f.0.1))

  -- ---- parts

  abbrev AreConstantsIn : (Ty → Reading Const) → Type 0
  AreConstantsIn constant = (ty : Ty) (ks : List Kept) → LexemesAreBytes ks → IsRead IsConstantIn (constant ty ks)

  module _ (constant : Ty → Reading Const) (inner : AreConstantsIn constant) where
    part_in : (ty : Ty) (ks : List Kept) → LexemesAreBytes ks → IsRead IsConstantIn (part_at env constant ty ks)
    part_in ty ks bytes =
        read-next Any IsConstantIn _ (written_type env.types ks) (read-any _)
        (λ t any. read-where IsConstantIn (same_type ty t.0) _ (λ e. read-behind IsConstantIn t.1 _ (inner ty (drop t.1 ks) (dropped_lexemes t.1 ks bytes))))

    parts_in : (tys : List Ty) (ks : List Kept) → LexemesAreBytes ks → IsRead (All IsConstantIn) (parts_at env constant tys ks)
    parts_in [] ks bytes = All-nil IsConstantIn
    parts_in (ty ∷ tys) ks bytes =
        read-next IsConstantIn (All IsConstantIn) _ (part_at env constant ty ks) (part_in ty ks bytes)
        (λ f first. read-map (All IsConstantIn) (All IsConstantIn) _ (parts_at env constant tys (drop f.1 ks)) (parts_in tys (drop f.1 ks) (dropped_lexemes f.1 ks bytes))
        (λ rest more. All-cons IsConstantIn f.0 rest.0 first more))

    elements_in : (t : Ty-F Ty) (ks : List Kept) → LexemesAreBytes ks → IsRead IsConstantIn (elements_at env constant t ks)
    elements_in (Ty-F.One s) ks bytes = tt
    elements_in (Ty-F.Struct fields) ks bytes = tt
    elements_in (Ty-F.Array count element) ks bytes =
        read-next (All IsConstantIn) IsConstantIn _ _
        (read-closed (All IsConstantIn) is_close_square ks _ (run_in IsConstantIn (λ shape. not (is_close_square shape)) (part_at env constant element) (part_in element) 0 ks bytes))
        (λ f all. read-where IsConstantIn (nat_eq (length f.0) count) (Some (Many f.0, f.1)) (λ e. many_in f.0 all))

    fields_in : (t : Ty-F Ty) (ks : List Kept) → LexemesAreBytes ks → IsRead IsConstantIn (fields_at env constant t ks)
    fields_in (Ty-F.One s) ks bytes = tt
    fields_in (Ty-F.Array count element) ks bytes = tt
    fields_in (Ty-F.Struct fields) ks bytes = read-map (All IsConstantIn) IsConstantIn _ _ (read-closed (All IsConstantIn) is_close_brace ks _ (parts_in fields ks bytes)) (λ f all. many_in f.0 all)

  -- ---- constants

  within_in : (depth : ℕ) → AreConstantsIn (constant_within env depth)
  within_in depth ty [] bytes = tt
  within_in depth ty ((is.Address, text) ∷ ks) bytes = read-behind IsConstantIn 1 _ (address_in (out-Ty ty) ks)
  within_in (suc depth) ty ((is.OpenSquare, text) ∷ ks) bytes = read-behind IsConstantIn 1 _ (elements_in (constant_within env depth) (within_in depth) (out-Ty ty) ks (lexemes_behind (is.OpenSquare, text) ks bytes))
  within_in (suc depth) ty ((is.OpenBrace, text) ∷ ks) bytes = read-behind IsConstantIn 1 _ (fields_in (constant_within env depth) (within_in depth) (out-Ty ty) ks (lexemes_behind (is.OpenBrace, text) ks bytes))
  within_in depth ty (k ∷ ks) bytes = made_in IsConstantIn IsConstantIn (λ c. (c, 1)) (single env (out-Ty ty) k) (single_in (out-Ty ty) k (first_lexeme k ks bytes)) (λ c p. p)

  -- A constant that is read of bytes is in range.
  pub constant_read : (ty : Ty) (ks : List Kept) → LexemesAreBytes ks → IsRead IsConstantIn (constant_at env ty ks)
  constant_read = within_in 64

-- ---- operands

abbrev pub IsOperandIn : Operand → Type 0
IsOperandIn value = IsTrue (is_operand_in_range value)

local_in : (found : Option Local) → IfSome (operand_in found) IsOperandIn
local_in None = tt
local_in (Some (Param place)) = refl
local_in (Some (Reg number)) = refl
local_in (Some (Block place)) = tt

module _ (names : Names) where
  of_constant : (ty : Scalar) (ks : List Kept) → LexemesAreBytes ks → IsRead IsOperandIn (option_map (λ f. (operand.Const f.0, f.1)) (constant_at names.env (One ty) ks))
  of_constant ty ks bytes = read-map IsConstantIn IsOperandIn _ (constant_at names.env (One ty) ks) (constant_read names.env (One ty) ks bytes) (λ f p. p)

  -- An operand that is read of bytes is in range.
  pub operand_read : (ty : Scalar) (ks : List Kept) → LexemesAreBytes ks → IsRead IsOperandIn (operand_at names ty ks)
  operand_read ty [] bytes = of_constant ty [] bytes
  operand_read ty ((is.Local, text) ∷ ks) bytes =
      made_in IsOperandIn IsOperandIn (λ value. (value, 1)) (operand_in (local_among names.locals (local_name text))) (local_in (local_among names.locals (local_name text))) (λ value p. p)
  operand_read ty (k ∷ ks) bytes = of_constant ty (k ∷ ks) bytes
