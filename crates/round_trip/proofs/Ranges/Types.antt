-- Types that are read have counts below 2^64.
use Rattle.std.proofs.Common.{◌∙◌, ℕ, zero, suc, ◌^◌, Bool, true, false, cond, nat_lt, List, [], ◌∷◌, length, drop, Option, Some, None, option_map, option_and_then, ap, sym}
use Rattle.std.specs.Prelude.{All, IfSome, IsTrue}
use Rattle.std.proofs.lemmas.Bool.{and_from}
use Rattle.std.proofs.lemmas.List.Folds.{list_all-map}
use Rattle.std.proofs.lemmas.List.Sums.{list_all-from_AllPass}
use Rattle.ir_lexer.specs.Texts.{name_of}
use Rattle.ir_types.specs.declared.scalar.Scalar.{Scalar}
use Rattle.ir_types.specs.declared.shape.Ty.{Ty}
use Rattle.ir_types.specs.declared.shape.Ty.TheBlock.{One}
use Rattle.ir_types.specs.declared.shape.Ty.TheOpen.{Ty-F}
use Rattle.ir_types.specs.declared.shape.Ty.TheVariants.{rolls-One}
use Rattle.ir_types.specs.declared.shape.Ty.TheFolds.{fold-roll-Ty}
use Rattle.ir_types.specs.Names.{is_name}
use Rattle.ir_grammar.specs.declared.shape.Shape.TheVariants as is
use Rattle.ir_grammar.specs.Numbers.{number_of}
use Rattle.ir_grammar.specs.Tokens.{Kept}
use Rattle.ir_scope.specs.Types.{fits, fitting, is_close_brace, begins_field, type_named, type_at, written_type}
use Rattle.type_names.specs.TypeNames.{Named, written_for, stands_in, stands_for}
use Rattle.ir_operands.proofs.FormingReadings.{IsRead, read-behind, read-map, read-next, read-where, read-run, read-closed}
use Rattle.ir_writer.specs.Ranges.{type_in_range, is_type_in_range}
use Rattle.round_trip.proofs.Constants.Types.{in_range-Array, in_range-Struct}

-- what is read and made by one lexeme
pub made_in : {X Y : Type 0} (P : X → Type 0) (Q : Y → Type 0) (make : X → Y × ℕ) (found : Option X) → IfSome found P → ((x : X) → P x → Q (make x).0) → IsRead Q (option_map make found)
made_in P Q make None h step = tt
made_in P Q make (Some x) h step = step x h

-- ---- types that are written

abbrev pub IsTypeIn : Ty → Type 0
IsTypeIn ty = IsTrue (is_type_in_range ty)

-- What names stand for is in range.
abbrev pub AreTypesIn : (List ℕ → Option Ty) → Type 0
AreTypesIn look = (name : List ℕ) → IfSome (look name) IsTypeIn

scalar_in : (s : Scalar) → IsTypeIn (One s)
unfolding is_type_in_range
scalar_in s = ap is_type_in_range (sym (rolls-One s)) ∙ fold-roll-Ty Bool type_in_range (Ty-F.One s)

fitting_in : (found : Option (Ty × ℕ)) → IsRead IsTypeIn found → IsRead IsTypeIn (fitting found)
fitting_in found h = read-next IsTypeIn IsTypeIn _ found h (λ f p. read-where IsTypeIn (fits f.0) (Some f) (λ e. p))

module _ (look : List ℕ → Option Ty) (looks : AreTypesIn look) where
  used_in : (name : List ℕ) → IfSome (type_named look name) IsTypeIn
  used_in name = kept (is_name name)
    where
      kept : (b : Bool) → IfSome (cond b (look name) None) IsTypeIn
      kept true = looks name
      kept false = tt

  type_read : (depth : ℕ) (ks : List Kept) → IsRead IsTypeIn (type_at look depth ks)
  type_read depth [] = tt
  type_read depth ((is.Scalar s, text) ∷ ks) = scalar_in s
  type_read depth ((is.Local, text) ∷ ks) = fitting_in _ (made_in IsTypeIn IsTypeIn (λ ty. (ty, 1)) (type_named look (name_of (drop 1 text))) (used_in (name_of (drop 1 text))) (λ ty p. p))
  type_read (suc depth) ((is.OpenSquare, text) ∷ (is.Int digits, count) ∷ ks) =
      read-where IsTypeIn (nat_lt (number_of count) (2 ^ 64)) _
      (λ less. fitting_in _ (read-behind IsTypeIn 2 _ (read-map IsTypeIn IsTypeIn _ (type_at look depth ks) (type_read depth ks)
      (λ f p. in_range-Array (number_of count) f.0 ∙ and_from (nat_lt (number_of count) (2 ^ 64)) (is_type_in_range f.0) less p))))
  type_read (suc depth) ((is.OpenBrace, text) ∷ ks) =
      fitting_in _ (read-behind IsTypeIn 1 _ (read-map (All IsTypeIn) IsTypeIn _ _
      (read-closed (All IsTypeIn) is_close_brace ks _ (read-run IsTypeIn begins_field (type_at look depth) 0 ks (λ k rest begins. type_read depth (k ∷ rest))))
      (λ f all. in_range-Struct f.0 ∙ list_all-map (λ (b : Bool). b) is_type_in_range f.0 ∙ list_all-from_AllPass is_type_in_range f.0 all)))
  type_read depth (k ∷ ks) = tt

  -- A type that is written is in range.
  pub written_in : (ks : List Kept) → IsRead IsTypeIn (written_type look ks)
  written_in ks = type_read 64 ks

-- ---- types that names stand for

type_of : (found : Option (Ty × ℕ)) → IsRead IsTypeIn found → IfSome (option_map (λ f. f.0) found) IsTypeIn
type_of None h = tt
type_of (Some f) h = h

-- one more step
step_in : (look : List ℕ → Option Ty) → AreTypesIn look → (found : Option (List Kept)) → IfSome (option_and_then (λ ks. option_map (λ f. f.0) (written_type look ks)) found) IsTypeIn
step_in look looks None = tt
step_in look looks (Some ks) = type_of (written_type look ks) (written_in look looks ks)

steps_in : (types : List Named) (steps : ℕ) → AreTypesIn (stands_in types steps)
steps_in types zero name = tt
steps_in types (suc steps) name = step_in (stands_in types steps) (steps_in types steps) (written_for types name)

-- What the named types stand for is in range.
pub named_in : (types : List Named) → AreTypesIn (stands_for types)
unfolding stands_for
named_in types name = steps_in types (length types) name
