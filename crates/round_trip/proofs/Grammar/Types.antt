-- The grammar takes the tokens of types.
use Rattle.std.proofs.Common.{◌≡◌, ◌∙◌, ◌^◌, Bool, true, List, [], ◌∷◌, map, Some, refl, sym, ap, arith, ltb}
use Rattle.std.specs.List.{list_all}
use Rattle.std.proofs.lemmas.Bool.{and_parts, ltb-true}
use Rattle.ir_lexer.specs.Written.{spellings_of}
use Rattle.ir_types.specs.declared.scalar.Scalar.{Scalar}
use Rattle.ir_types.specs.declared.shape.Ty.{Ty}
use Rattle.ir_types.specs.declared.shape.Ty.TheBlock.{One}
use Rattle.ir_types.specs.declared.shape.Ty.TheVariants.{rolls-One}
use Rattle.ir_types.specs.declared.shape.Ty.TheOpen.{Ty-F}
use Rattle.ir_types.specs.declared.shape.Ty.TheViews.{roll-Ty}
use Rattle.ir_types.specs.declared.shape.Ty.TheFolds.{map-Ty, fold-roll-Ty, ind-Ty}
use Rattle.ir_grammar.specs.declared.grammar.Item.TheVariants as item
use Rattle.ir_grammar.specs.declared.grammar.Name.TheVariants as the
use Rattle.ir_grammar.specs.Items as grammar
use Rattle.ir_writer.specs.Words.{Parts, more}
use Rattle.ir_writer.specs.Constants.{type_step, type_parts}
use Rattle.ir_writer.specs.Ranges.{type_in_range, is_type_in_range}
use Rattle.round_trip.proofs.Grammar.Kept.{Lexemes, joined, type_kept_step, type_kept}
use Rattle.round_trip.proofs.Grammar.Walking.{goes, Items, end_brace}
use Rattle.round_trip.proofs.Grammar.Goes.{no_records}
use Rattle.round_trip.proofs.Grammar.Parts.{Through, through_as, nothing, spaced, keeps, drops, then_on, then_unkept, separated_begins, begun}
use Rattle.round_trip.proofs.Grammar.Words.{scalar_shape}
use Rattle.round_trip.proofs.Grammar.Digits.{count_taken}

-- ---- by layers

parts_at : (x : Ty-F Ty) → type_parts (roll-Ty x) ≡ type_step (map-Ty Ty Parts type_parts x)
unfolding type_parts
parts_at x = fold-roll-Ty Parts type_step x

kept_at : (x : Ty-F Ty) → type_kept (roll-Ty x) ≡ type_kept_step (map-Ty Ty Lexemes type_kept x)
unfolding type_kept
kept_at x = fold-roll-Ty Lexemes type_kept_step x

range_at : (x : Ty-F Ty) → is_type_in_range (roll-Ty x) ≡ type_in_range (map-Ty Ty Bool is_type_in_range x)
unfolding is_type_in_range
range_at x = fold-roll-Ty Bool type_in_range x

-- ---- types

abbrev IsThrough : Ty → Type 0
IsThrough ty = is_type_in_range ty ≡ true → (next : Items) → Through (item.One the.Type ∷ next) (type_parts ty) (type_kept ty) next

-- a type with a proof of it
abbrev Shown : Type 0
Shown = (ty : Ty) × IsThrough ty

fields_through : (fs : List Shown) → list_all (λ field. field) (map is_type_in_range (map (λ f. f.0) fs)) ≡ true → (next : Items) →
    Through (item.Further the.Type ∷ end_brace ∷ next) (more (map type_parts (map (λ f. f.0) fs))) (joined (map type_kept (map (λ f. f.0) fs))) (item.Further the.Type ∷ end_brace ∷ next)
fields_through [] range next = nothing (item.Further the.Type ∷ end_brace ∷ next)
fields_through (f ∷ fs) range next =
    let parts = and_parts (is_type_in_range f.0) (list_all (λ field. field) (map is_type_in_range (map (λ (g : Shown). g.0) fs))) range in
    drops refl refl refl (spaced (then_on (f.1 parts.0 (item.Further the.Type ∷ end_brace ∷ next)) (fields_through fs parts.1 next)))

layer_through : (y : Ty-F Shown) → type_in_range (map-Ty Ty Bool is_type_in_range (map-Ty Shown Ty (λ f. f.0) y)) ≡ true → (next : Items) →
    Through (item.One the.Type ∷ next) (type_step (map-Ty Ty Parts type_parts (map-Ty Shown Ty (λ f. f.0) y))) (type_kept_step (map-Ty Ty Lexemes type_kept (map-Ty Shown Ty (λ f. f.0) y))) next
layer_through (Ty-F.One s) range next = keeps (scalar_shape s) refl refl (nothing next)
layer_through (Ty-F.Array count f) range next =
    let parts = and_parts (ltb count (2 ^ 64)) (is_type_in_range f.0) range in
    keeps refl refl refl (keeps refl refl (count_taken count _ (ltb-true count (2 ^ 64) parts.0)) (spaced (drops refl refl refl (spaced (then_unkept (f.1 parts.1 (grammar.close_square ∷ next)) (drops refl refl refl (nothing next)))))))
layer_through (Ty-F.Struct []) range next = keeps refl refl refl (keeps refl refl refl (nothing next))
layer_through (Ty-F.Struct (f ∷ fs)) range next =
    let parts = and_parts (is_type_in_range f.0) (list_all (λ field. field) (map is_type_in_range (map (λ (g : Shown). g.0) fs))) range in
    let first = begun (omega arith) (separated_begins the.Type (end_brace ∷ next)) (f.1 parts.0 (item.Further the.Type ∷ end_brace ∷ next)) in
    keeps refl refl refl (spaced (then_on (then_on first (fields_through fs parts.1 next)) (spaced (keeps refl refl refl (nothing next)))))

rolled_through : (x : Ty-F Ty) (y : Ty-F Shown) → map-Ty Shown Ty (λ f. f.0) y ≡ x → IsThrough (roll-Ty x)
rolled_through x y e range next =
    through_as (ap (λ x. type_step (map-Ty Ty Parts type_parts x)) e ∙ sym (parts_at x)) (ap (λ x. type_kept_step (map-Ty Ty Lexemes type_kept x)) e ∙ sym (kept_at x))
    (layer_through y (ap (λ x. type_in_range (map-Ty Ty Bool is_type_in_range x)) e ∙ sym (range_at x) ∙ range) next)

pub type_through : (ty : Ty) → is_type_in_range ty ≡ true → (next : Items) → Through (item.One the.Type ∷ next) (type_parts ty) (type_kept ty) next
type_through = ind-Ty IsThrough rolled_through

-- the type of one scalar
pub one_range : (s : Scalar) → is_type_in_range (One s) ≡ true
one_range s = ap is_type_in_range (sym (rolls-One s)) ∙ range_at (Ty-F.One s)

pub type_goes : (ty : Ty) (next : Items) → is_type_in_range ty ≡ true → goes (item.One the.Type ∷ next) (spellings_of (type_parts ty)) ≡ Some (type_kept ty, next)
type_goes ty next range = (type_through ty range next).gone

pub type_clean : (ty : Ty) → is_type_in_range ty ≡ true → no_records (spellings_of (type_parts ty)) ≡ true
type_clean ty range = (type_through ty range []).clean
