-- The flags that may come in any order differ from each other, in all productions.
use Rattle.std.proofs.Common.{◌≡◌, ℕ, suc, Bool, true, false, ◌&&◌, not, cond, ltb, List, [], ◌∷◌, ◌++◌, Option, Some, None, refl, sym, subst, ◌∙◌}
use Rattle.std.specs.List.{list_all}
use Rattle.std.proofs.lemmas.Bool.{and_parts, and_from}
use Rattle.std.proofs.lemmas.List.Folds.{list_all-append}
use Rattle.ir_grammar.specs.declared.shape.Shape.{Shape}
use Rattle.ir_grammar.specs.declared.shape.Shape.TheVariants as is
use Rattle.ir_grammar.specs.declared.shape.Free.TheVariants as free
use Rattle.ir_grammar.specs.declared.grammar.FlagPart.{FlagPart}
use Rattle.ir_grammar.specs.declared.grammar.Flags.{Flags}
use Rattle.ir_grammar.specs.declared.grammar.Terminal.TheVariants as a
use Rattle.ir_grammar.specs.declared.grammar.Name.{Name}
use Rattle.ir_grammar.specs.declared.grammar.Name.TheVariants as the
use Rattle.ir_grammar.specs.declared.grammar.Item.{Item}
use Rattle.ir_grammar.specs.declared.grammar.Item.TheVariants as item
use Rattle.ir_grammar.specs.Items.{Production, keeps}
use Rattle.ir_grammar.specs.Constants.{address}
use Rattle.ir_grammar.specs.Grammar.{productions}
use Rattle.ir_grammar.specs.Derives.{IsOneOf, here, there, is_flag, without_a, without_b, without_c}
use Rattle.ir_grammar.proofs.AllShapes.{same_shape}
use Rattle.ir_grammar.proofs.Apart.{false_not_true, not_both}

abbrev pub parts_differ : Option FlagPart → Option FlagPart → Bool
parts_differ None other = true
parts_differ (Some part) other = not (is_flag other (is.Free (free.Flag part.flag)))

abbrev pub flags_differ : Flags → Bool
flags_differ flags = parts_differ flags.a flags.b && (parts_differ flags.a flags.c && parts_differ flags.b flags.c)

abbrev pub item_differs : Item → Bool
item_differs (item.AnyOrder flags) = flags_differ flags
item_differs _ = true

abbrev pub all_differ : List Item → Bool
all_differ items = list_all item_differs items

-- no token is two flags that differ
pub not_other : (one other : Option FlagPart) (shape : Shape) → parts_differ one other ≡ true → is_flag one shape ≡ true → is_flag other shape ≡ true → ⊥
not_other None other shape differ is_one is_other = false_not_true is_one
not_other (Some part) other shape differ is_one is_other =
    not_both (is_flag other (is.Free (free.Flag part.flag))) differ
    (subst (λ s. is_flag other s ≡ true) (sym (same_shape (is.Free (free.Flag part.flag)) shape is_one)) is_other)

-- without one of them they still differ
from_none : (part : Option FlagPart) → parts_differ part None ≡ true
from_none None = refl
from_none (Some part) = refl

pub differ_without_a : (flags : Flags) → flags_differ flags ≡ true → flags_differ (without_a flags) ≡ true
differ_without_a flags differ = (and_parts _ _ (and_parts _ _ differ).1).1

pub differ_without_b : (flags : Flags) → flags_differ flags ≡ true → flags_differ (without_b flags) ≡ true
differ_without_b flags differ =
    and_from _ _ (from_none flags.a) (and_from _ _ (and_parts _ _ (and_parts _ _ differ).1).0 refl)

pub differ_without_c : (flags : Flags) → flags_differ flags ≡ true → flags_differ (without_c flags) ≡ true
differ_without_c flags differ =
    and_from _ _ (and_parts _ _ differ).0 (and_from _ _ (from_none flags.a) (from_none flags.b))

-- with other flags in their place
pub differ_with : (flags others : Flags) (items : List Item) → (flags_differ flags ≡ true → flags_differ others ≡ true) →
    all_differ (item.AnyOrder flags ∷ items) ≡ true → all_differ (item.AnyOrder others ∷ items) ≡ true
differ_with flags others items each differ =
    let parts = and_parts _ _ differ in
    and_from _ _ (each parts.0) parts.1

-- all productions
abbrev pub behind_differs : Production → Bool
behind_differs production = all_differ production.behind

base_differs : (b : Bool) (count : ℕ) → list_all behind_differs (keeps a.AnyAt [] ∷ cond b (address count ∷ []) []) ≡ true
base_differs true count = refl
base_differs false count = refl

each_differs : (name : Name) → list_all behind_differs (productions name) ≡ true
each_differs (the.Base count) = base_differs (ltb count 64) (suc count)
each_differs (the.Lines true) = refl
each_differs (the.NamedLine true) = refl
each_differs _ = refl

one_differs : (production : Production) (ps : List Production) → IsOneOf production ps → list_all behind_differs ps ≡ true → all_differ production.behind ≡ true
one_differs production _ (here more) all = (and_parts _ _ all).0
one_differs production _ (there other more among) all = one_differs production more among (and_parts _ _ all).1

pub differ_behind : (name : Name) (production : Production) (items : List Item) → IsOneOf production (productions name) → all_differ items ≡ true → all_differ (production.behind ++ items) ≡ true
differ_behind name production items among differ =
    list_all-append item_differs production.behind items
    ∙ and_from _ _ (one_differs production (productions name) among (each_differs name)) differ
