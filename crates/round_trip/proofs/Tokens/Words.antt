-- Words, marks, names and numbers that are written can be read.
use Rattle.std.proofs.Common.{◌≡◌, ◌∙◌, ℕ, ◌-◌, ◌^◌, Bool, true, false, ◌&&◌, ◌||◌, cond, codes, List, [], ◌∷◌, ◌++◌, length, take, Option, Some, None, refl, ap, subst, arith, ltb, eqb, length-append}
use Rattle.std.specs.List.{list_all}
use Rattle.std.specs.Char.{is_ascii_digit}
use Rattle.std.specs.Fmt.{decimal}
use Rattle.std.proofs.lemmas.List.{take_at, get_or_at}
use Rattle.std.proofs.lemmas.Bool.{and_parts, and_from, or_left, cond_both}
use Rattle.ir_lexer.specs.declared.token.Kind.TheVariants as kind
use Rattle.ir_lexer.specs.Signs.{is_blank, begins_word, begins_name, is_name_byte, is_mark}
use Rattle.ir_lexer.specs.Spelled.{headed, is_word, is_one_mark, is_integer, is_label, is_run, is_quoted, has}
use Rattle.ir_lexer.specs.Written.{Spelling, is_end}
use Rattle.ir_lexer.proofs.Names.{name_from_digit, has_from}
use Rattle.ir_types.specs.declared.scalar.Scalar.{Scalar}
use Rattle.ir_types.specs.declared.scalar.Scalar.TheVariants.{I1, I8, I16, I32, I64, Ptr}
use Rattle.ir_types.specs.declared.scalar.Ext.{Ext}
use Rattle.ir_types.specs.declared.scalar.Ext.TheVariants.{Plain, Signed, Unsigned}
use Rattle.ir_types.specs.declared.scalar.BinOp.{BinOp}
use Rattle.ir_types.specs.declared.scalar.BinOp.TheVariants as op
use Rattle.ir_types.specs.declared.scalar.CastOp.{CastOp}
use Rattle.ir_types.specs.declared.scalar.CastOp.TheVariants as cast
use Rattle.ir_types.specs.declared.scalar.Pred.{Pred}
use Rattle.ir_types.specs.declared.scalar.Pred.TheVariants as pred
use Rattle.ir_syntax.specs.declared.item.Linkage.{Linkage}
use Rattle.ir_syntax.specs.declared.item.Linkage.TheVariants as linkage
use Rattle.ir_writer.specs.Words.{Parts, equals, open_paren, close_paren, open_square, close_square, open_brace, close_brace, scalar_text, scalar, returned, op_text, cast_text, pred_text, said, linkage_parts, ext_before, ext_behind}
use Rattle.ir_writer.specs.Constants.{signed_text, integer}
use Rattle.ir_writer.specs.Instructions.{param_text, result_text, block_text, local, label}
use Rattle.round_trip.proofs.Tokens.Quoted.{headed_name}
use Rattle.round_trip.proofs.Tokens.Digits.{decimal_digits, decimal_spelled, signed_spelled}
use Rattle.round_trip.proofs.Tokens.Parts.{Reads, Follows, nothing, no_parts, token, marked, end_mark, spaced, word_spaced}

-- ---- marks

equals_mark : is_one_mark (61 ∷ []) ≡ true
unfolding is_one_mark is_mark
equals_mark = refl

parens : (is_one_mark (40 ∷ []) ≡ true) × (is_end 40 ≡ true) × (is_one_mark (41 ∷ []) ≡ true) × (is_end 41 ≡ true)
unfolding is_one_mark is_mark is_end is_blank
parens = (refl, refl, refl, refl)

squares : (is_one_mark (91 ∷ []) ≡ true) × (is_one_mark (93 ∷ []) ≡ true) × (is_end 93 ≡ true)
unfolding is_one_mark is_mark is_end is_blank
squares = (refl, refl, refl)

braces : (is_one_mark (123 ∷ []) ≡ true) × (is_one_mark (125 ∷ []) ≡ true)
unfolding is_one_mark is_mark
braces = (refl, refl)

module _ {wants : Bool} {parts : Parts} (behind : Reads wants parts) where
  pub equals_read : Reads wants (equals ∷ parts)
  equals_read = marked equals_mark behind

  pub open_paren_follows : Follows wants (open_paren ∷ parts)
  open_paren_follows = end_mark parens.0 parens.1 behind

  pub close_paren_follows : Follows wants (close_paren ∷ parts)
  close_paren_follows = end_mark parens.2 parens.3 behind

  pub open_square_read : Reads wants (open_square ∷ parts)
  open_square_read = marked squares.0 behind

  pub close_square_follows : Follows wants (close_square ∷ parts)
  close_square_follows = end_mark squares.1 squares.2 behind

  pub open_brace_read : Reads wants (open_brace ∷ parts)
  open_brace_read = marked braces.0 behind

  pub close_brace_read : Reads wants (close_brace ∷ parts)
  close_brace_read = marked braces.1 behind

-- ---- words

pub scalar_word : (ty : Scalar) → is_word (scalar_text ty) ≡ true
unfolding is_word begins_word begins_name is_name_byte
scalar_word I1 = refl
scalar_word I8 = refl
scalar_word I16 = refl
scalar_word I32 = refl
scalar_word I64 = refl
scalar_word Ptr = refl

pub op_word : (which : BinOp) → is_word (op_text which) ≡ true
unfolding is_word begins_word begins_name is_name_byte
op_word op.Add = refl
op_word op.Sub = refl
op_word op.Mul = refl
op_word op.Udiv = refl
op_word op.Sdiv = refl
op_word op.Urem = refl
op_word op.Srem = refl
op_word op.Shl = refl
op_word op.Lshr = refl
op_word op.Ashr = refl
op_word op.And = refl
op_word op.Or = refl
op_word op.Xor = refl

pub cast_word : (which : CastOp) → is_word (cast_text which) ≡ true
unfolding is_word begins_word begins_name is_name_byte
cast_word cast.Zext = refl
cast_word cast.Sext = refl
cast_word cast.Trunc = refl

pub pred_word : (which : Pred) → is_word (pred_text which) ≡ true
unfolding is_word begins_word begins_name is_name_byte
pred_word pred.Eq = refl
pred_word pred.Ne = refl
pred_word pred.Ugt = refl
pred_word pred.Uge = refl
pred_word pred.Ult = refl
pred_word pred.Ule = refl
pred_word pred.Sgt = refl
pred_word pred.Sge = refl
pred_word pred.Slt = refl
pred_word pred.Sle = refl

module _ {wants : Bool} {parts : Parts} where
  pub scalar_reads : (ty : Scalar) → Follows wants parts → Reads wants (scalar ty ∷ parts)
  scalar_reads ty behind = token (scalar_word ty) behind

  pub returned_reads : (ty : Option Scalar) → Follows wants parts → Reads wants (returned ty ∷ parts)
  unfolding is_word begins_word begins_name is_name_byte
  returned_reads None behind = token refl behind
  returned_reads (Some ty) behind = scalar_reads ty behind

pub said_reads : (b : Bool) (text : List ℕ) → is_word text ≡ true → Reads false (said b text)
said_reads false text is = no_parts
said_reads true text is = word_spaced is no_parts

pub linkage_reads : (l : Linkage) → Reads false (linkage_parts l)
unfolding is_word begins_word begins_name is_name_byte
linkage_reads linkage.External = no_parts
linkage_reads linkage.Internal = word_spaced refl no_parts
linkage_reads linkage.Private = word_spaced refl no_parts

pub ext_reads : (e : Ext) → Reads false (ext_before e)
unfolding is_word begins_word begins_name is_name_byte
ext_reads Plain = no_parts
ext_reads Signed = word_spaced refl no_parts
ext_reads Unsigned = word_spaced refl no_parts

pub ext_follows : (e : Ext) → Follows true (ext_behind e)
unfolding is_word begins_word begins_name is_name_byte
ext_follows Plain = nothing
ext_follows Signed = spaced (token refl nothing)
ext_follows Unsigned = spaced (token refl nothing)

-- ---- names of parameters, results and blocks

names_of_digits : (ds : List ℕ) → list_all is_ascii_digit ds ≡ true → list_all is_name_byte ds ≡ true
names_of_digits [] h = refl
names_of_digits (d ∷ ds) h =
    let a = and_parts (is_ascii_digit d) (list_all is_ascii_digit ds) h in
    and_from (is_name_byte d) (list_all is_name_byte ds) (name_from_digit d a.0) (names_of_digits ds a.1)

tagged_headed : (tag k : ℕ) → begins_name tag ≡ true → headed begins_name is_name_byte (tag ∷ decimal k) ≡ true
tagged_headed tag k begins = and_from (begins_name tag) (list_all is_name_byte (decimal k)) begins (names_of_digits (decimal k) (decimal_digits k))

letters : (begins_name 97 ≡ true) × (begins_name 98 ≡ true) × (begins_name 118 ≡ true) × (is_name_byte 98 ≡ true)
unfolding begins_name begins_word is_name_byte
letters = (refl, refl, refl, refl)

module _ {wants : Bool} {parts : Parts} (k : ℕ) (behind : Follows wants parts) where
  pub param_reads : Reads wants (local (param_text k) ∷ parts)
  param_reads = token (headed_name (97 ∷ decimal k) (tagged_headed 97 k letters.0)) behind

  pub result_reads : Reads wants (local (result_text k) ∷ parts)
  result_reads = token (headed_name (118 ∷ decimal k) (tagged_headed 118 k letters.2)) behind

  pub block_reads : Reads wants (local (block_text k) ∷ parts)
  block_reads = token (headed_name (98 ∷ decimal k) (tagged_headed 98 k letters.1)) behind

run_of_block : (k : ℕ) → is_run (codes "b" ++ decimal k) ≡ true
unfolding is_run
run_of_block k = and_from (is_name_byte 98) (list_all is_name_byte (decimal k)) letters.3 (names_of_digits (decimal k) (decimal_digits k))

run_labels : (run : List ℕ) → is_run run ≡ true → is_label (run ++ 58 ∷ []) ≡ true
unfolding is_label
run_labels run is =
    let text : List ℕ = run ++ 58 ∷ [] in
    let len : length run ≡ length text - 1 = omega (arith, length-append run (58 ∷ [])) in
    let P : ℕ → Type 0 = λ n. (has text n 58 && (is_run (take n text) || is_quoted (take n text))) ≡ true in
    let colon : has text (length run) 58 ≡ true = has_from text (length run) 58 (omega (arith, length-append run (58 ∷ []))) (get_or_at run 58 [] 0 (length run) refl) in
    let front : is_run (take (length run) text) ≡ true = ap is_run (take_at run (58 ∷ []) (length run) refl) ∙ is in
    subst P len (and_from _ _ colon (or_left _ _ front))

pub label_reads : {wants : Bool} {parts : Parts} (k : ℕ) → Follows wants parts → Reads wants (label k ∷ parts)
label_reads k behind = token (run_labels (codes "b" ++ decimal k) (run_of_block k)) behind

-- ---- numbers

signed_read : (half n : ℕ) → is_integer (signed_text half n) ≡ true
signed_read half n = cond_both (ltb n half) (decimal n) (45 ∷ decimal (half - (n - half))) (λ t. is_integer t ≡ true) (λ _. decimal_spelled n) (λ _. signed_spelled (half - (n - half)))

truth_word : (n : ℕ) → is_word (cond (eqb n 0) (codes "false") (codes "true")) ≡ true
unfolding is_word begins_word begins_name is_name_byte
truth_word n = cond_both (eqb n 0) (codes "false") (codes "true") (λ t. is_word t ≡ true) (λ _. refl) (λ _. refl)

module _ {wants : Bool} {parts : Parts} where
  pub decimal_reads : (n : ℕ) → Follows wants parts → Reads wants (Spelling kind.Int (decimal n) ∷ parts)
  decimal_reads n behind = token (decimal_spelled n) behind

  pub integer_reads : (ty : Scalar) (n : ℕ) → Follows wants parts → Reads wants (integer ty n ∷ parts)
  integer_reads I1 n behind = token (truth_word n) behind
  integer_reads I8 n behind = token (signed_read (2 ^ 7) n) behind
  integer_reads I16 n behind = token (signed_read (2 ^ 15) n) behind
  integer_reads I32 n behind = token (signed_read (2 ^ 31) n) behind
  integer_reads I64 n behind = token (signed_read (2 ^ 63) n) behind
  integer_reads Ptr n behind = token (decimal_spelled n) behind
