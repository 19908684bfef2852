-- What operands and types begin with, and operands that are read again.
use Rattle.std.proofs.Common.{◌≡◌, ◌∙◌, ℕ, ℤ, zero, suc, pos, negsuc, Bool, true, false, not, cond, ◌==◌, codes, List, [], ◌∷◌, ◌++◌, length, map, Option, Some, None, option_map, refl, sym, ap}
use Rattle.std.proofs.lemmas.Bool.{false≢true}
use Rattle.ir_types.specs.declared.scalar.Scalar.{Scalar}
use Rattle.ir_types.specs.declared.scalar.Scalar.TheVariants.{I1, I8, I16, I32, I64, Ptr}
use Rattle.ir_types.specs.declared.scalar.Ext.{Ext}
use Rattle.ir_types.specs.declared.scalar.Ext.TheVariants.{Plain}
use Rattle.ir_types.specs.declared.shape.Ty.{Ty, out-Ty}
use Rattle.ir_types.specs.declared.shape.Ty.TheBlock.{One}
use Rattle.ir_types.specs.declared.shape.Ty.TheOpen.{Ty-F}
use Rattle.ir_types.specs.declared.shape.Ty.TheVariants.{outs-One}
use Rattle.ir_types.specs.declared.shape.Ty.TheFolds.{map-Ty, fold_out-Ty}
use Rattle.ir_syntax.specs.declared.constant.Const.{Const, out-Const}
use Rattle.ir_syntax.specs.declared.constant.Const.TheOpen.{Const-F}
use Rattle.ir_syntax.specs.declared.constant.Const.TheFolds.{map-Const, fold_out-Const}
use Rattle.ir_syntax.specs.declared.constant.Operand.{Operand}
use Rattle.ir_syntax.specs.declared.constant.Operand.TheVariants as operand
use Rattle.ir_syntax.specs.Suits.{suits, suits_step, Suits, takes_parts}
use Rattle.ir_syntax.specs.FormedBody.{Places, IsOperand}
use Rattle.ir_grammar.specs.declared.shape.AtName.TheVariants as at
use Rattle.ir_grammar.specs.declared.shape.Shape.{Shape}
use Rattle.ir_grammar.specs.declared.shape.Shape.TheVariants as is
use Rattle.ir_grammar.specs.declared.shape.Value.TheVariants as val
use Rattle.ir_grammar.specs.Shapes.{at_shape}
use Rattle.ir_scope.specs.Runs.{begins_with}
use Rattle.ir_operands.specs.Operands.{Names, inbounds_at}
use Rattle.ir_operands.specs.Marks.{ext_at}
use Rattle.ir_calls.specs.Calls.{whole_at, callee_at, void_callee_at}
use Rattle.ir_writer.specs.Names.{name_at}
use Rattle.round_trip.proofs.Grammar.Operands.{is_debug}
use Rattle.round_trip.proofs.Grammar.Kept.{Lexemes, type_kept, type_kept_step, integer_kept, number_kept, address_kept, constant_kept, constant_kept_step, operand_kept}

-- ---- types

abbrev begins_type : Shape → Bool
begins_type (is.Scalar ty) = true
begins_type is.OpenSquare = true
begins_type is.OpenBrace = true
begins_type _ = false

type_begins : (ty : Ty) → begins_with begins_type (type_kept ty) ≡ true
unfolding type_kept
type_begins ty = ap (begins_with begins_type) (fold_out-Ty Lexemes type_kept_step ty) ∙ cases (out-Ty ty)
  where
    cases : (t : Ty-F Ty) → begins_with begins_type (type_kept_step (map-Ty Ty Lexemes type_kept t)) ≡ true
    cases (Ty-F.One s) = refl
    cases (Ty-F.Array count element) = refl
    cases (Ty-F.Struct fields) = refl

unflagged : (ks rest : Lexemes) → begins_with begins_type ks ≡ true → inbounds_at (ks ++ rest) ≡ (false, 0)
unflagged [] rest e = absurd (false≢true e)
unflagged ((is.Scalar ty, text) ∷ ks) rest e = refl
unflagged ((is.OpenSquare, text) ∷ ks) rest e = refl
unflagged ((is.OpenBrace, text) ∷ ks) rest e = refl
unflagged (k ∷ ks) rest e = absurd (false≢true e)

pub no_inbounds : (ty : Ty) (rest : Lexemes) → inbounds_at (type_kept ty ++ rest) ≡ (false, 0)
no_inbounds ty rest = unflagged (type_kept ty) rest (type_begins ty)

-- ---- constants of scalars

-- a shape at which a constant begins that isn't a name
abbrev begins_unnamed : Shape → Bool
begins_unnamed (is.Int digits) = true
begins_unnamed (is.Value value) = true
begins_unnamed is.Address = true
begins_unnamed is.CStr = true
begins_unnamed _ = false

-- a shape at which a constant begins
abbrev pub begins_constant : Shape → Bool
begins_constant (is.At name) = true
begins_constant (is.Int digits) = true
begins_constant (is.Value value) = true
begins_constant is.Address = true
begins_constant is.CStr = true
begins_constant _ = false

still_constant : (s : Shape) → begins_unnamed s ≡ true → begins_constant s ≡ true
still_constant (is.Int digits) e = refl
still_constant (is.Value value) e = refl
still_constant is.Address e = refl
still_constant is.CStr e = refl
still_constant s e = absurd (false≢true e)

module _ (names : List (List ℕ)) (test : Shape → Bool) (named : (place : ℕ) → test (is.At (at_shape (name_at names place))) ≡ true) (unnamed : (s : Shape) → begins_unnamed s ≡ true → test s ≡ true) where
  integer_begins : (ty : Scalar) (n : ℕ) → begins_with test (integer_kept ty n ∷ []) ≡ true
  integer_begins I1 n = cases (n == 0)
    where
      cases : (b : Bool) → begins_with test ((cond b (is.Value val.False, codes "false") (is.Value val.True, codes "true")) ∷ []) ≡ true
      cases true = unnamed (is.Value val.False) refl
      cases false = unnamed (is.Value val.True) refl
  integer_begins I8 n = unnamed _ refl
  integer_begins I16 n = unnamed _ refl
  integer_begins I32 n = unnamed _ refl
  integer_begins I64 n = unnamed _ refl
  integer_begins Ptr n = unnamed _ refl

  address_begins : (place : ℕ) (offset : ℤ) → begins_with test (address_kept names place offset) ≡ true
  address_begins place (pos zero) = named place
  address_begins place (pos (suc n)) = unnamed is.Address refl
  address_begins place (negsuc n) = unnamed is.Address refl

  constant_begins : (items : ℕ) (ty : Scalar) (c : Const) → Suits items (One ty) c → begins_with test (constant_kept names c (One ty)) ≡ true
  unfolding constant_kept suits
  constant_begins items ty c suited =
      ap (λ (f : Ty → Lexemes). begins_with test (f (One ty))) (fold_out-Const (Ty → Lexemes) (constant_kept_step names) c)
      ∙ cases (out-Const c) (sym (ap (λ (f : Ty → Bool). f (One ty)) (fold_out-Const (Ty → Bool) (suits_step items) c)) ∙ suited)
    where
      cases : (v : Const-F Const) → suits_step items (map-Const Const (Ty → Bool) (suits items) v) (One ty) ≡ true →
          begins_with test (constant_kept_step names (map-Const Const (Ty → Lexemes) (constant_kept names) v) (One ty)) ≡ true
      cases (Const-F.Int n) e = ap (λ t. begins_with test (number_kept t n)) (outs-One ty) ∙ integer_begins ty n
      cases Const-F.Null e = unnamed _ refl
      cases (Const-F.Addr place offset) e = address_begins place offset
      cases Const-F.Undef e = unnamed _ refl
      cases Const-F.Poison e = unnamed _ refl
      cases Const-F.Zero e = unnamed _ refl
      cases (Const-F.Text bytes) e = unnamed _ refl
      cases (Const-F.Many parts) e = absurd (false≢true (ap (λ t. takes_parts t (map (suits items) parts)) (sym (outs-One ty)) ∙ e))

pub constant_first : (names : List (List ℕ)) (items : ℕ) (ty : Scalar) (c : Const) → Suits items (One ty) c → begins_with begins_constant (constant_kept names c (One ty)) ≡ true
constant_first names items ty c suited = constant_begins names begins_constant (λ place. refl) still_constant items ty c suited

-- ---- operands

-- No name is that of debug information.
abbrev pub NoDebug : List (List ℕ) → Type 0
NoDebug names = (place : ℕ) → is_debug (at_shape (name_at names place)) ≡ false

-- a shape at which an operand begins
abbrev begins_operand : Shape → Bool
begins_operand is.Local = true
begins_operand (is.At name) = not (is_debug name)
begins_operand (is.Int digits) = true
begins_operand (is.Value value) = true
begins_operand is.Address = true
begins_operand is.CStr = true
begins_operand _ = false

still_operand : (s : Shape) → begins_unnamed s ≡ true → begins_operand s ≡ true
still_operand (is.Int digits) e = refl
still_operand (is.Value value) e = refl
still_operand is.Address e = refl
still_operand is.CStr e = refl
still_operand s e = absurd (false≢true e)

operand_begins : (names : List (List ℕ)) (places : Places) → NoDebug names → (ty : Scalar) (value : Operand) → IsOperand places ty value → begins_with begins_operand (operand_kept names ty value) ≡ true
operand_begins names places plain ty (operand.Param k) is_there = refl
operand_begins names places plain ty (operand.Reg k) is_there = refl
operand_begins names places plain ty (operand.Const c) suited =
    constant_begins names begins_operand (λ place. ap not (plain place)) still_operand (length places.items) ty c suited

whole_before : (ks rest : Lexemes) → begins_with begins_operand ks ≡ true → whole_at (ks ++ rest) ≡ Some (None, 0)
whole_before [] rest e = absurd (false≢true e)
whole_before ((is.OpenParen, text) ∷ ks) rest e = absurd (false≢true e)
whole_before (k ∷ ks) rest e = refl

ext_before : (ks rest : Lexemes) → begins_with begins_operand ks ≡ true → ext_at (ks ++ rest) ≡ (Plain, 0)
ext_before [] rest e = absurd (false≢true e)
ext_before ((is.Ext ext, text) ∷ ks) rest e = absurd (false≢true e)
ext_before (k ∷ ks) rest e = refl

kept_before : (N : Names) (ext : Ext) (whole : Option (List Scalar × Bool)) (ks rest : Lexemes) → begins_with begins_operand ks ≡ true →
    void_callee_at N ext whole (ks ++ rest) ≡ option_map (λ f. (Some f.0, f.1)) (callee_at N ext None whole (ks ++ rest))
kept_before N ext whole [] rest e = absurd (false≢true e)
kept_before N ext whole ((is.At at.Debug, text) ∷ ks) rest e = absurd (false≢true e)
kept_before N ext whole (k ∷ ks) rest e = refl

module _ (names : List (List ℕ)) (places : Places) (plain : NoDebug names) (ty : Scalar) (value : Operand) (is_there : IsOperand places ty value) (rest : Lexemes) where
  -- No whole type stands before an operand,
  pub no_whole : whole_at (operand_kept names ty value ++ rest) ≡ Some (None, 0)
  no_whole = whole_before (operand_kept names ty value) rest (operand_begins names places plain ty value is_there)

  -- no attribute is taken from it,
  pub no_ext : ext_at (operand_kept names ty value ++ rest) ≡ (Plain, 0)
  no_ext = ext_before (operand_kept names ty value) rest (operand_begins names places plain ty value is_there)

  -- and a call of it isn't dropped.
  pub not_dropped : (N : Names) (ext : Ext) (whole : Option (List Scalar × Bool)) →
      void_callee_at N ext whole (operand_kept names ty value ++ rest) ≡ option_map (λ f. (Some f.0, f.1)) (callee_at N ext None whole (operand_kept names ty value ++ rest))
  not_dropped N ext whole = kept_before N ext whole (operand_kept names ty value) rest (operand_begins names places plain ty value is_there)
