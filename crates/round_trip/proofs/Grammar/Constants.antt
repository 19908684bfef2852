-- The grammar takes the tokens of constants.
use Rattle.std.proofs.Common.{◌≡◌, ◌∙◌, ℕ, ◌==◌, Bool, true, List, [], ◌∷◌, length, map, Some, ltb, refl, sym, ap, ◌^◌, arith}
use Rattle.std.specs.List.{list_all}
use Rattle.std.proofs.lemmas.Bool.{false≢true, and_parts}
use Rattle.ir_lexer.specs.Written.{spellings_of}
use Rattle.ir_types.specs.declared.shape.Ty.{Ty, out-Ty}
use Rattle.ir_types.specs.declared.shape.Ty.TheOpen.{Ty-F}
use Rattle.ir_types.specs.declared.shape.Ty.TheFolds.{map-Ty, fold_out-Ty}
use Rattle.ir_syntax.specs.declared.constant.Const.{Const}
use Rattle.ir_syntax.specs.declared.constant.Const.TheOpen.{Const-F}
use Rattle.ir_syntax.specs.declared.constant.Const.TheViews.{roll-Const}
use Rattle.ir_syntax.specs.declared.constant.Const.TheFolds.{map-Const, fold-roll-Const, ind-Const}
use Rattle.ir_syntax.specs.Suits.{suits, suits_step, takes_parts, each_takes}
use Rattle.ir_grammar.specs.declared.shape.Shape.TheVariants as is
use Rattle.ir_grammar.specs.declared.grammar.Item.TheVariants as item
use Rattle.ir_grammar.specs.declared.grammar.Name.TheVariants as the
use Rattle.ir_writer.specs.Words.{Parts, more}
use Rattle.ir_writer.specs.Constants.{typed_part, typed_fields, many_at, constant_step, constant_parts}
use Rattle.ir_writer.specs.Ranges.{type_in_range, is_type_in_range}
use Rattle.round_trip.proofs.Grammar.Kept.{Lexemes, joined, part_kept, fields_kept, many_kept, constant_kept_step, constant_kept}
use Rattle.round_trip.proofs.Grammar.Walking.{goes, Items, end_brace, end_square}
use Rattle.round_trip.proofs.Grammar.Goes.{no_records}
use Rattle.round_trip.proofs.Grammar.Parts.{Through, through_as, nothing, spaced, keeps, drops, then_on, Begins, separated_begins, begun}
use Rattle.round_trip.proofs.Grammar.Types.{type_through}
use Rattle.round_trip.proofs.Grammar.Singles.{AreRead, number_through, address_through}

-- ---- by layers

module _ (names : List (List ℕ)) where
  pub parts_at : (x : Const-F Const) → constant_parts names (roll-Const x) ≡ constant_step names (map-Const Const (Ty → Parts) (constant_parts names) x)
  unfolding constant_parts
  parts_at x = fold-roll-Const (Ty → Parts) (constant_step names) x

  pub kept_at : (x : Const-F Const) → constant_kept names (roll-Const x) ≡ constant_kept_step names (map-Const Const (Ty → Lexemes) (constant_kept names) x)
  unfolding constant_kept
  kept_at x = fold-roll-Const (Ty → Lexemes) (constant_kept_step names) x

pub suits_at : (items : ℕ) (x : Const-F Const) → suits items (roll-Const x) ≡ suits_step items (map-Const Const (Ty → Bool) (suits items) x)
unfolding suits
suits_at items x = fold-roll-Const (Ty → Bool) (suits_step items) x

range_out : (ty : Ty) → is_type_in_range ty ≡ type_in_range (map-Ty Ty Bool is_type_in_range (out-Ty ty))
unfolding is_type_in_range
range_out ty = fold_out-Ty Bool type_in_range ty

-- ---- an element begins with its type

element_begins : (next : Items) → Begins (item.One the.Type ∷ item.One the.Constant ∷ next) (item.One the.Element ∷ next)
element_begins next is.Local kept_as after e = e
element_begins next _ kept_as after e = e

-- ---- constants

module _ (names : List (List ℕ)) (read : AreRead names) (items : ℕ) where
  abbrev IsThrough : Const → Type 0
  IsThrough c = (ty : Ty) → suits items c ty ≡ true → is_type_in_range ty ≡ true → (next : Items) → Through (item.One the.Constant ∷ next) (constant_parts names c ty) (constant_kept names c ty) next

  -- a constant with a proof of it
  abbrev Shown : Type 0
  Shown = (c : Const) × IsThrough c

  abbrev constants : List Shown → List Const
  constants cs = map (λ c. c.0) cs

  -- T C
  element_through : (c : Shown) (ty : Ty) → suits items c.0 ty ≡ true → is_type_in_range ty ≡ true → (next : Items) →
      Through (item.One the.Element ∷ next) (typed_part (constant_parts names c.0) ty) (part_kept (constant_kept names c.0) ty) next
  element_through c ty suited range next = begun (omega arith) (element_begins next) (then_on (type_through ty range (item.One the.Constant ∷ next)) (spaced (c.1 ty suited range next)))

  elements_through : (element : Ty) (cs : List Shown) → list_all (λ part. part element) (map (suits items) (constants cs)) ≡ true → is_type_in_range element ≡ true → (next : Items) →
      Through (item.Further the.Element ∷ end_square ∷ next) (more (map (λ part. typed_part part element) (map (constant_parts names) (constants cs))))
      (joined (map (λ part. part_kept part element) (map (constant_kept names) (constants cs)))) (item.Further the.Element ∷ end_square ∷ next)
  elements_through element [] suited range next = nothing (item.Further the.Element ∷ end_square ∷ next)
  elements_through element (c ∷ cs) suited range next =
      let both = and_parts (suits items c.0 element) (list_all (λ part. part element) (map (suits items) (constants cs))) suited in
      drops refl refl refl (spaced (then_on (element_through c element both.0 range (item.Further the.Element ∷ end_square ∷ next)) (elements_through element cs both.1 range next)))

  fields_through : (cs : List Shown) (tys : List Ty) → each_takes (map (suits items) (constants cs)) tys ≡ true → list_all (λ field. field) (map is_type_in_range tys) ≡ true → (next : Items) →
      Through (item.Further the.Element ∷ end_brace ∷ next) (more (typed_fields (map (constant_parts names) (constants cs)) tys)) (joined (fields_kept (map (constant_kept names) (constants cs)) tys)) (item.Further the.Element ∷ end_brace ∷ next)
  fields_through [] tys suited range next = nothing (item.Further the.Element ∷ end_brace ∷ next)
  fields_through (c ∷ cs) [] suited range next = nothing (item.Further the.Element ∷ end_brace ∷ next)
  fields_through (c ∷ cs) (ty ∷ tys) suited range next =
      let both = and_parts (suits items c.0 ty) (each_takes (map (suits items) (constants cs)) tys) suited in
      let ranges = and_parts (is_type_in_range ty) (list_all (λ field. field) (map is_type_in_range tys)) range in
      drops refl refl refl (spaced (then_on (element_through c ty both.0 ranges.0 (item.Further the.Element ∷ end_brace ∷ next)) (fields_through cs tys both.1 ranges.1 next)))

  many_through : (t : Ty-F Ty) (cs : List Shown) → takes_parts t (map (suits items) (constants cs)) ≡ true → type_in_range (map-Ty Ty Bool is_type_in_range t) ≡ true → (next : Items) →
      Through (item.One the.Constant ∷ next) (many_at t (map (constant_parts names) (constants cs))) (many_kept t (map (constant_kept names) (constants cs))) next
  many_through (Ty-F.One s) cs suited range next = absurd (false≢true suited)
  many_through (Ty-F.Array count element) [] suited range next = keeps refl refl refl (keeps refl refl refl (nothing next))
  many_through (Ty-F.Array count element) (c ∷ cs) suited range next =
      let counted = and_parts (length (map (suits items) (constants (c ∷ cs))) == count) (list_all (λ part. part element) (map (suits items) (constants (c ∷ cs)))) suited in
      let both = and_parts (suits items c.0 element) (list_all (λ part. part element) (map (suits items) (constants cs))) counted.1 in
      let ranges = and_parts (ltb count (2 ^ 64)) (is_type_in_range element) range in
      keeps refl refl refl
      (then_on (then_on (begun (omega arith) (separated_begins the.Element (end_square ∷ next)) (element_through c element both.0 ranges.1 (item.Further the.Element ∷ end_square ∷ next))) (elements_through element cs both.1 ranges.1 next)) (keeps refl refl refl (nothing next)))
  many_through (Ty-F.Struct []) [] suited range next = keeps refl refl refl (keeps refl refl refl (nothing next))
  many_through (Ty-F.Struct []) (c ∷ cs) suited range next = absurd (false≢true suited)
  many_through (Ty-F.Struct (ty ∷ tys)) [] suited range next = absurd (false≢true suited)
  many_through (Ty-F.Struct (ty ∷ tys)) (c ∷ cs) suited range next =
      let both = and_parts (suits items c.0 ty) (each_takes (map (suits items) (constants cs)) tys) suited in
      let ranges = and_parts (is_type_in_range ty) (list_all (λ field. field) (map is_type_in_range tys)) range in
      keeps refl refl refl
      (spaced (then_on (then_on (begun (omega arith) (separated_begins the.Element (end_brace ∷ next)) (element_through c ty both.0 ranges.0 (item.Further the.Element ∷ end_brace ∷ next))) (fields_through cs tys both.1 ranges.1 next)) (spaced (keeps refl refl refl (nothing next)))))

  layer_through : (y : Const-F Shown) (ty : Ty) → suits_step items (map-Const Const (Ty → Bool) (suits items) (map-Const Shown Const (λ c. c.0) y)) ty ≡ true → is_type_in_range ty ≡ true → (next : Items) →
      Through (item.One the.Constant ∷ next) (constant_step names (map-Const Const (Ty → Parts) (constant_parts names) (map-Const Shown Const (λ c. c.0) y)) ty)
      (constant_kept_step names (map-Const Const (Ty → Lexemes) (constant_kept names) (map-Const Shown Const (λ c. c.0) y)) ty) next
  layer_through (Const-F.Int n) ty suited range next = number_through (out-Ty ty) n next
  layer_through Const-F.Null ty suited range next = keeps refl refl refl (nothing next)
  layer_through (Const-F.Addr place offset) ty suited range next = address_through names read place offset next
  layer_through Const-F.Undef ty suited range next = keeps refl refl refl (nothing next)
  layer_through Const-F.Poison ty suited range next = keeps refl refl refl (nothing next)
  layer_through Const-F.Zero ty suited range next = keeps refl refl refl (nothing next)
  layer_through (Const-F.Text bytes) ty suited range next = keeps refl refl refl (nothing next)
  layer_through (Const-F.Many cs) ty suited range next = many_through (out-Ty ty) cs suited (sym (range_out ty) ∙ range) next

  rolled_through : (x : Const-F Const) (y : Const-F Shown) → map-Const Shown Const (λ c. c.0) y ≡ x → IsThrough (roll-Const x)
  rolled_through x y e ty suited range next =
      through_as (ap (λ x. constant_step names (map-Const Const (Ty → Parts) (constant_parts names) x) ty) e ∙ sym (ap (λ f. f ty) (parts_at names x)))
      (ap (λ x. constant_kept_step names (map-Const Const (Ty → Lexemes) (constant_kept names) x) ty) e ∙ sym (ap (λ f. f ty) (kept_at names x)))
      (layer_through y ty (ap (λ x. suits_step items (map-Const Const (Ty → Bool) (suits items) x) ty) e ∙ sym (ap (λ f. f ty) (suits_at items x)) ∙ suited) range next)

  pub constant_through : (c : Const) (ty : Ty) → suits items c ty ≡ true → is_type_in_range ty ≡ true → (next : Items) → Through (item.One the.Constant ∷ next) (constant_parts names c ty) (constant_kept names c ty) next
  constant_through = ind-Const IsThrough rolled_through

  pub constant_goes : (c : Const) (ty : Ty) (next : Items) → suits items c ty ≡ true → is_type_in_range ty ≡ true → goes (item.One the.Constant ∷ next) (spellings_of (constant_parts names c ty)) ≡ Some (constant_kept names c ty, next)
  constant_goes c ty next suited range = (constant_through c ty suited range next).gone

  pub constant_clean : (c : Const) (ty : Ty) → suits items c ty ≡ true → is_type_in_range ty ≡ true → no_records (spellings_of (constant_parts names c ty)) ≡ true
  constant_clean c ty suited range = (constant_through c ty suited range []).clean
