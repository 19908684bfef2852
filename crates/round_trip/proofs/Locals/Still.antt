-- Lexemes among which no result, no name of one and no label stands: those of types, constants and operands.
use Rattle.std.proofs.Common.{◌≡◌, ◌∙◌, ℕ, ℤ, pos, negsuc, zero, suc, Bool, true, false, not, ◌||◌, cond, eqb, codes, List, [], ◌∷◌, ◌++◌, map, filter, Option, None, refl, sym, ap}
use Rattle.std.specs.List.{list_all}
use Rattle.std.proofs.lemmas.List.Folds.{list_all-append}
use Rattle.std.proofs.lemmas.Bool.{and_from, and_parts, or_parts, not-true, cond-false, cond_both}
use Rattle.ir_types.specs.declared.scalar.Scalar.{Scalar}
use Rattle.ir_types.specs.declared.scalar.Scalar.TheVariants.{I1, I8, I16, I32, I64, Ptr}
use Rattle.ir_types.specs.declared.shape.Ty.{Ty, out-Ty}
use Rattle.ir_types.specs.declared.shape.Ty.TheBlock.{One}
use Rattle.ir_types.specs.declared.shape.Ty.TheOpen.{Ty-F}
use Rattle.ir_types.specs.declared.shape.Ty.TheFolds.{map-Ty, fold-roll-Ty, ind-Ty}
use Rattle.ir_syntax.specs.declared.constant.Const.{Const}
use Rattle.ir_syntax.specs.declared.constant.Const.TheOpen.{Const-F}
use Rattle.ir_syntax.specs.declared.constant.Const.TheFolds.{map-Const, fold-roll-Const, ind-Const}
use Rattle.ir_syntax.specs.declared.constant.Operand.{Operand}
use Rattle.ir_syntax.specs.declared.constant.Operand.TheVariants as operand
use Rattle.ir_grammar.specs.declared.shape.Shape.{Shape}
use Rattle.ir_grammar.specs.declared.shape.Shape.TheVariants as is
use Rattle.ir_grammar.specs.declared.shape.Value.TheVariants as val
use Rattle.ir_grammar.specs.Tokens.{Kept}
use Rattle.ir_locals.specs.Locals.{has_result, result_name, results_from, is_label, label_name, label_names}
use Rattle.round_trip.proofs.Grammar.Kept.{Lexemes, joined, close_square_kept, close_brace_kept, type_kept_step, type_kept, integer_kept, address_kept, number_kept, part_kept, fields_kept, many_kept, constant_kept_step, constant_kept, operand_kept, typed_kept, pair_kept}

abbrev pub names_result : Shape → Bool
names_result is.Result = true
names_result _ = false

-- no result, no name of one and no label
abbrev pub is_still : Kept → Bool
is_still k = not (has_result k.0 || (names_result k.0 || is_label k.0))

abbrev pub Still : List Kept → Type 0
Still ks = list_all is_still ks ≡ true

pub still_append : (xs ys : List Kept) → Still xs → Still ys → Still (xs ++ ys)
still_append xs ys a b = list_all-append is_still xs ys ∙ and_from (list_all is_still xs) (list_all is_still ys) a b

pub still_more : (k : Kept) (ks : List Kept) → is_still k ≡ true → Still ks → Still (k ∷ ks)
still_more k ks a b = and_from (is_still k) (list_all is_still ks) a b

-- lists that each are
pub still_joined : {X : Type 0} (f : X → Lexemes) → ((x : X) → Still (f x)) → (xs : List X) → Still (joined (map f xs))
still_joined f each [] = refl
still_joined f each (x ∷ xs) = still_append (f x) (joined (map f xs)) (each x) (still_joined f each xs)

-- ---- types

abbrev ShownType : Type 0
ShownType = (t : Ty) × Still (type_kept t)

types_still : (fs : List ShownType) → Still (joined (map type_kept (map (λ (f : ShownType). f.0) fs)))
types_still [] = refl
types_still (f ∷ fs) = still_append (type_kept f.0) (joined (map type_kept (map (λ (f : ShownType). f.0) fs))) f.1 (types_still fs)

type_layer : (y : Ty-F ShownType) → Still (type_kept_step (map-Ty Ty Lexemes type_kept (map-Ty ShownType Ty (λ f. f.0) y)))
type_layer (Ty-F.One s) = refl
type_layer (Ty-F.Array n f) = f.1
type_layer (Ty-F.Struct fs) = still_append (joined (map type_kept (map (λ (f : ShownType). f.0) fs))) (close_brace_kept ∷ []) (types_still fs) refl

pub type_still : (ty : Ty) → Still (type_kept ty)
unfolding type_kept
type_still = ind-Ty (λ t. Still (type_kept t)) (λ x y is.
    ap (λ ks. list_all is_still ks) (fold-roll-Ty Lexemes type_kept_step x)
    ∙ (ap (λ z. list_all is_still (type_kept_step (map-Ty Ty Lexemes type_kept z))) (sym is) ∙ type_layer y))

-- ---- constants

pub integer_still : (ty : Scalar) (n : ℕ) → is_still (integer_kept ty n) ≡ true
integer_still I1 n = cond_both (eqb n 0) (is.Value val.False, codes "false") (is.Value val.True, codes "true") (λ (k : Kept). is_still k ≡ true) (λ e. refl) (λ e. refl)
integer_still I8 n = refl
integer_still I16 n = refl
integer_still I32 n = refl
integer_still I64 n = refl
integer_still Ptr n = refl

number_still : (x : Ty-F Ty) (n : ℕ) → Still (number_kept x n)
number_still (Ty-F.One s) n = still_more (integer_kept s n) [] (integer_still s n) refl
number_still (Ty-F.Array count element) n = refl
number_still (Ty-F.Struct fields) n = refl

address_still : (names : List (List ℕ)) (place : ℕ) (offset : ℤ) → Still (address_kept names place offset)
address_still names place (pos zero) = refl
address_still names place (pos (suc n)) = refl
address_still names place (negsuc n) = refl

module _ (names : List (List ℕ)) where
  abbrev StillConstant : Const → Type 0
  StillConstant c = (ty : Ty) → Still (constant_kept names c ty)

  abbrev ShownConstant : Type 0
  ShownConstant = (c : Const) × StillConstant c

  abbrev shown : List ShownConstant → List (Ty → Lexemes)
  shown fs = map (constant_kept names) (map (λ (f : ShownConstant). f.0) fs)

  elements_still : (element : Ty) (fs : List ShownConstant) → Still (joined (map (λ part. part_kept part element) (shown fs)))
  elements_still element [] = refl
  elements_still element (f ∷ fs) =
      still_append (type_kept element ++ constant_kept names f.0 element) (joined (map (λ part. part_kept part element) (shown fs)))
      (still_append (type_kept element) (constant_kept names f.0 element) (type_still element) (f.1 element))
      (elements_still element fs)

  fields_still : (fs : List ShownConstant) (tys : List Ty) → Still (joined (fields_kept (shown fs) tys))
  fields_still [] tys = refl
  fields_still (f ∷ fs) [] = refl
  fields_still (f ∷ fs) (ty ∷ tys) =
      still_append (type_kept ty ++ constant_kept names f.0 ty) (joined (fields_kept (shown fs) tys))
      (still_append (type_kept ty) (constant_kept names f.0 ty) (type_still ty) (f.1 ty))
      (fields_still fs tys)

  many_still : (x : Ty-F Ty) (fs : List ShownConstant) → Still (many_kept x (shown fs))
  many_still (Ty-F.One s) fs = refl
  many_still (Ty-F.Array count element) fs = still_append (joined (map (λ part. part_kept part element) (shown fs))) (close_square_kept ∷ []) (elements_still element fs) refl
  many_still (Ty-F.Struct fields) fs = still_append (joined (fields_kept (shown fs) fields)) (close_brace_kept ∷ []) (fields_still fs fields) refl

  constant_layer : (y : Const-F ShownConstant) (ty : Ty) → Still (constant_kept_step names (map-Const Const (Ty → Lexemes) (constant_kept names) (map-Const ShownConstant Const (λ f. f.0) y)) ty)
  constant_layer (Const-F.Int n) ty = number_still (out-Ty ty) n
  constant_layer Const-F.Null ty = refl
  constant_layer (Const-F.Addr place offset) ty = address_still names place offset
  constant_layer Const-F.Undef ty = refl
  constant_layer Const-F.Poison ty = refl
  constant_layer Const-F.Zero ty = refl
  constant_layer (Const-F.Text bytes) ty = refl
  constant_layer (Const-F.Many fs) ty = many_still (out-Ty ty) fs

  pub constant_still : (c : Const) (ty : Ty) → Still (constant_kept names c ty)
  unfolding constant_kept
  constant_still = ind-Const StillConstant (λ x y is.
      λ ty.
      ap (λ f. list_all is_still (f ty)) (fold-roll-Const (Ty → Lexemes) (constant_kept_step names) x)
      ∙ (ap (λ z. list_all is_still (constant_kept_step names (map-Const Const (Ty → Lexemes) (constant_kept names) z) ty)) (sym is) ∙ constant_layer y ty))

  -- ---- operands

  pub operand_still : (ty : Scalar) (value : Operand) → Still (operand_kept names ty value)
  operand_still ty (operand.Param k) = refl
  operand_still ty (operand.Reg k) = refl
  operand_still ty (operand.Const c) = constant_still c (One ty)

  pub pair_still : (ty : Scalar) (a b : Operand) → Still (pair_kept names ty a b)
  pair_still ty a b = still_append (typed_kept names ty a) (operand_kept names ty b) (operand_still ty a) (operand_still ty b)

-- ---- what is read of them

unnamed : (shape : Shape) (text : List ℕ) (pending : Option (List ℕ)) → names_result shape ≡ false → result_name shape text pending ≡ pending
unnamed is.Result text pending e = cc
unnamed shape text pending e = refl

-- what a still lexeme isn't
still_parts : (k : Kept) → is_still k ≡ true → (has_result k.0 ≡ false) × (names_result k.0 ≡ false) × (is_label k.0 ≡ false)
still_parts k h =
    let result = or_parts (has_result k.0) (names_result k.0 || is_label k.0) (not-true _ h) in
    let others = or_parts (names_result k.0) (is_label k.0) result.1 in
    (result.0, others.0, others.1)

pub still_results : (ks rest : List Kept) (pending : Option (List ℕ)) → Still ks → results_from pending (ks ++ rest) ≡ results_from pending rest
still_results [] rest pending h = refl
still_results (k ∷ ks) rest pending h =
    let both = and_parts (is_still k) (list_all is_still ks) h in
    let parts = still_parts k both.0 in
    cond-false (has_result k.0) (pending ∷ results_from None (ks ++ rest)) (results_from (result_name k.0 k.1 pending) (ks ++ rest)) parts.0
    ∙ (ap (λ p. results_from p (ks ++ rest)) (unnamed k.0 k.1 pending parts.1) ∙ still_results ks rest pending both.1)

pub still_labels : (ks rest : List Kept) → Still ks → label_names (ks ++ rest) ≡ label_names rest
still_labels [] rest h = refl
still_labels (k ∷ ks) rest h =
    let both = and_parts (is_still k) (list_all is_still ks) h in
    ap (λ b. map (λ (t : Kept). label_name t.1) (cond b (k ∷ filter (λ (t : Kept). is_label t.0) (ks ++ rest)) (filter (λ (t : Kept). is_label t.0) (ks ++ rest)))) (still_parts k both.0).2
    ∙ still_labels ks rest both.1
