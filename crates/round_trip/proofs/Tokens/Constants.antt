-- Types and constants that are written can be read.
use Rattle.std.proofs.Common.{◌≡◌, ◌∙◌, ℕ, ℤ, zero, suc, pos, negsuc, Bool, true, codes, List, [], ◌∷◌, map, refl, sym, ap, subst}
use Rattle.std.specs.Fmt.{signed_decimal}
use Rattle.ir_lexer.specs.declared.token.Kind.TheVariants as kind
use Rattle.ir_lexer.specs.Signs.{begins_word, begins_name, is_name_byte}
use Rattle.ir_lexer.specs.Spelled.{is_word}
use Rattle.ir_lexer.specs.Written.{Spelling}
use Rattle.ir_types.specs.declared.shape.Ty.{Ty, out-Ty}
use Rattle.ir_types.specs.declared.shape.Ty.TheOpen.{Ty-F}
use Rattle.ir_types.specs.declared.shape.Ty.TheViews.{roll-Ty}
use Rattle.ir_types.specs.declared.shape.Ty.TheFolds.{map-Ty, fold-roll-Ty, ind-Ty}
use Rattle.ir_syntax.specs.declared.constant.Const.{Const}
use Rattle.ir_syntax.specs.declared.constant.Const.TheOpen.{Const-F}
use Rattle.ir_syntax.specs.declared.constant.Const.TheViews.{roll-Const}
use Rattle.ir_syntax.specs.declared.constant.Const.TheFolds.{map-Const, fold-roll-Const, ind-Const}
use Rattle.ir_writer.specs.Names.{name_at}
use Rattle.ir_writer.specs.Words.{Parts, space, word, comma, open_paren, close_paren, close_square, close_brace, listed}
use Rattle.ir_writer.specs.Constants.{braced, type_step, type_parts, symbol, address, number_at, typed_part, typed_fields, many_at, constant_step, constant_parts}
use Rattle.round_trip.proofs.Tokens.Quoted.{quoted_spelled, name_spelled}
use Rattle.round_trip.proofs.Tokens.Digits.{decimal_spelled, signed_spelled}
use Rattle.round_trip.proofs.Tokens.Parts.{Reads, Follows, nothing, token, joined, spaced, comma_spaced, word_spaced, EachReads, listed_read}
use Rattle.round_trip.proofs.Tokens.Words.{open_paren_follows, close_paren_follows, open_square_read, close_square_follows, open_brace_read, close_brace_read, scalar_reads, decimal_reads, integer_reads}

-- ---- types

braced_read : (lists : List Parts) → EachReads lists → Reads true (braced lists)
braced_read [] each = open_brace_read (close_brace_read nothing.reads)
braced_read (parts ∷ lists) each =
    open_brace_read (spaced (joined (listed (parts ∷ lists)) (space ∷ close_brace ∷ []) (listed_read (parts ∷ lists) each) (spaced (close_brace_read nothing.reads)))).reads

abbrev TypeReads : Ty → Type 0
TypeReads ty = Reads true (type_parts ty)

-- a type that can be read
abbrev Shown : Type 0
Shown = (ty : Ty) × TypeReads ty

fields_read : (fields : List Shown) → EachReads (map type_parts (map (λ f. f.0) fields))
fields_read [] = tt
fields_read (f ∷ fields) = (f.1, fields_read fields)

layer_reads : (y : Ty-F Shown) → Reads true (type_step (map-Ty Ty Parts type_parts (map-Ty Shown Ty (λ f. f.0) y)))
unfolding is_word begins_word begins_name is_name_byte
layer_reads (Ty-F.One ty) = scalar_reads ty nothing
layer_reads (Ty-F.Array count f) =
    open_square_read (decimal_reads count (spaced (word_spaced refl (joined (type_parts f.0) (close_square ∷ []) f.1 (close_square_follows nothing.reads)))))
layer_reads (Ty-F.Struct fields) = braced_read (map type_parts (map (λ f. f.0) fields)) (fields_read fields)

type_rolls : (x : Ty-F Ty) → type_parts (roll-Ty x) ≡ type_step (map-Ty Ty Parts type_parts x)
unfolding type_parts
type_rolls x = fold-roll-Ty Parts type_step x

pub type_reads : (ty : Ty) → Reads true (type_parts ty)
type_reads = ind-Ty TypeReads (λ x y is.
    subst (Reads true) (sym (type_rolls x ∙ ap (λ z. type_step (map-Ty Ty Parts type_parts z)) (sym is))) (layer_reads y))

-- ---- constants

symbol_reads : {wants : Bool} {parts : Parts} (names : List (List ℕ)) (place : ℕ) → Follows wants parts → Reads wants (symbol names place ∷ parts)
symbol_reads names place behind = token (name_spelled (name_at names place)) behind

offset_reads : {wants : Bool} {parts : Parts} (offset : ℤ) → Follows wants parts → Reads wants (Spelling kind.Int (signed_decimal offset) ∷ parts)
offset_reads (pos n) behind = token (decimal_spelled n) behind
offset_reads (negsuc n) behind = token (signed_spelled (suc n)) behind

moved_reads : (names : List (List ℕ)) (place : ℕ) (offset : ℤ) →
    Reads true (word (codes "getelementptr") ∷ space ∷ open_paren ∷ word (codes "i8") ∷ comma ∷ space ∷ word (codes "ptr") ∷ space ∷ symbol names place ∷ comma ∷ space
    ∷ word (codes "i64") ∷ space ∷ Spelling kind.Int (signed_decimal offset) ∷ close_paren ∷ [])
unfolding is_word begins_word begins_name is_name_byte
moved_reads names place offset =
    word_spaced refl (open_paren_follows (token refl (comma_spaced (word_spaced refl (symbol_reads names place (comma_spaced (word_spaced refl (offset_reads offset (close_paren_follows nothing.reads))))))))).reads

address_reads : (names : List (List ℕ)) (place : ℕ) (offset : ℤ) → Reads true (address names place offset)
address_reads names place (pos zero) = symbol_reads names place nothing
address_reads names place (pos (suc n)) = moved_reads names place (pos (suc n))
address_reads names place (negsuc n) = moved_reads names place (negsuc n)

number_reads : (x : Ty-F Ty) (n : ℕ) → Reads true (number_at x n)
number_reads (Ty-F.One ty) n = integer_reads ty n nothing
number_reads (Ty-F.Array count element) n = decimal_reads n nothing
number_reads (Ty-F.Struct fields) n = decimal_reads n nothing

module _ (names : List (List ℕ)) where
  abbrev ConstantReads : Const → Type 0
  ConstantReads c = (ty : Ty) → Reads true (constant_parts names c ty)

  -- a constant that can be read
  abbrev Told : Type 0
  Told = (c : Const) × ConstantReads c

  typed_reads : (t : Told) (ty : Ty) → Reads true (typed_part (constant_parts names t.0) ty)
  typed_reads t ty = joined (type_parts ty) (space ∷ constant_parts names t.0 ty) (type_reads ty) (spaced (t.1 ty))

  elements_read : (ts : List Told) (element : Ty) → EachReads (map (λ part. typed_part part element) (map (constant_parts names) (map (λ t. t.0) ts)))
  elements_read [] element = tt
  elements_read (t ∷ ts) element = (typed_reads t element, elements_read ts element)

  parts_read : (ts : List Told) (tys : List Ty) → EachReads (typed_fields (map (constant_parts names) (map (λ t. t.0) ts)) tys)
  parts_read [] tys = tt
  parts_read (t ∷ ts) [] = tt
  parts_read (t ∷ ts) (ty ∷ tys) = (typed_reads t ty, parts_read ts tys)

  many_reads : (x : Ty-F Ty) (ts : List Told) → Reads true (many_at x (map (constant_parts names) (map (λ t. t.0) ts)))
  many_reads (Ty-F.One ty) ts = nothing.reads
  many_reads (Ty-F.Array count element) ts =
      open_square_read
      (joined (listed (map (λ part. typed_part part element) (map (constant_parts names) (map (λ (t : Told). t.0) ts)))) (close_square ∷ []) (listed_read _ (elements_read ts element)) (close_square_follows nothing.reads))
  many_reads (Ty-F.Struct fields) ts = braced_read (typed_fields (map (constant_parts names) (map (λ (t : Told). t.0) ts)) fields) (parts_read ts fields)

  form_reads : (y : Const-F Told) (ty : Ty) → Reads true (constant_step names (map-Const Const (Ty → Parts) (constant_parts names) (map-Const Told Const (λ t. t.0) y)) ty)
  unfolding is_word begins_word begins_name is_name_byte
  form_reads (Const-F.Int n) ty = number_reads (out-Ty ty) n
  form_reads Const-F.Null ty = token refl nothing
  form_reads (Const-F.Addr place offset) ty = address_reads names place offset
  form_reads Const-F.Undef ty = token refl nothing
  form_reads Const-F.Poison ty = token refl nothing
  form_reads Const-F.Zero ty = token refl nothing
  form_reads (Const-F.Text bytes) ty = token (quoted_spelled bytes) nothing
  form_reads (Const-F.Many ts) ty = many_reads (out-Ty ty) ts

  constant_rolls : (x : Const-F Const) → constant_parts names (roll-Const x) ≡ constant_step names (map-Const Const (Ty → Parts) (constant_parts names) x)
  unfolding constant_parts
  constant_rolls x = fold-roll-Const (Ty → Parts) (constant_step names) x

  pub constant_reads : (c : Const) (ty : Ty) → Reads true (constant_parts names c ty)
  constant_reads = ind-Const ConstantReads (λ x y is.
      λ ty.
      let e : constant_parts names (roll-Const x) ty ≡ constant_step names (map-Const Const (Ty → Parts) (constant_parts names) (map-Const Told Const (λ t. t.0) y)) ty =
      ap (λ f. f ty) (constant_rolls x) ∙ ap (λ z. constant_step names (map-Const Const (Ty → Parts) (constant_parts names) z) ty) (sym is) in
      subst (Reads true) (sym e) (form_reads y ty))
