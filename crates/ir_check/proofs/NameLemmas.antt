-- The items that each form of constant names.
use Rattle.std.proofs.Common.{◌≡◌, ℕ, ℤ, Bool, true, false, not, List, [], ◌∷◌, map, refl, ap, sym, subst, ◌∙◌}
use Rattle.std.specs.Prelude.{Decides, All, flat_map, ◌++◌, slice_get}
use Rattle.std.proofs.lemmas.Bool.{false≢true}
use Rattle.std.proofs.lemmas.List.Elements.{All-nil, All-cons, All-head, All-tail, All-append}
use Rattle.ir_syntax.specs.declared.constant.Const.{Const, out-Const}
use Rattle.ir_syntax.specs.declared.constant.Const.TheBlock.{Int, Null, Addr, Undef, Poison, Zero, Text}
use Rattle.ir_syntax.specs.declared.constant.Const.TheViews.{Many}
use Rattle.ir_syntax.specs.declared.constant.Const.TheOpen.{Const-F}
use Rattle.ir_syntax.specs.declared.constant.Const.TheFolds.{map-Const, fold_out-Const}
use Rattle.ir_syntax.specs.declared.constant.Const.TheVariants.{outs-Int, outs-Null, outs-Addr, outs-Undef, outs-Poison, outs-Zero, outs-Text, outs-Many}
use Rattle.ir_syntax.specs.declared.item.Item.{Item}
use Rattle.ir_syntax.specs.FormedBody.{is_intrinsic_item}
use Rattle.ir_check.proofs.Loops.{All-first, All-second}
use Rattle.ir_syntax.specs.Named.{names, names_step}
use Rattle.ir_syntax.specs.Typed.{NamesNoIntrinsic}

-- the items that a constant names, by its layer
names_out : (constant : Const) (x : Const-F Const) → out-Const constant ≡ x → names constant ≡ names_step (map-Const Const (List ℕ) names x)
unfolding names
names_out constant x is = fold_out-Const (List ℕ) names_step constant ∙ ap (λ y. names_step (map-Const Const (List ℕ) names y)) is

pub names-Addr : (place : ℕ) (offset : ℤ) → names (Addr place offset) ≡ place ∷ []
names-Addr place offset = names_out _ _ (outs-Addr place offset)

pub names-Many : (parts : List Const) → names (Many parts) ≡ flat_map names parts
names-Many parts = names_out _ _ (outs-Many parts) ∙ joined parts
  where
    joined : (parts : List Const) → flat_map (λ part. part) (map names parts) ≡ flat_map names parts
    joined [] = refl
    joined (part ∷ parts) = ap (λ rest. names part ++ rest) (joined parts)

-- A constant that names nothing names no intrinsic.
pub names_none : (items : List Item) (constant : Const) → names constant ≡ [] → Decides true (NamesNoIntrinsic items constant)
names_none items constant none = (λ e. subst (All (λ place. is_intrinsic_item (slice_get items place) ≡ false)) (sym none) (All-nil _), λ h. refl)

pub names_one : (items : List Item) (constant : Const) (place : ℕ) (b : Bool) → names constant ≡ place ∷ [] → b ≡ is_intrinsic_item (slice_get items place) → Decides (not b) (NamesNoIntrinsic items constant)
names_one items constant place b one is = (
  λ e. subst P (sym one) (All-cons IsPlain place [] (sym is ∙ negated b e) (All-nil IsPlain)),
  λ h. restored b (is ∙ All-head IsPlain place [] (subst P one h)),
)
  where
    IsPlain : ℕ → Type 0
    IsPlain place = is_intrinsic_item (slice_get items place) ≡ false

    P : List ℕ → Type 0
    P = All IsPlain

    negated : (b : Bool) → not b ≡ true → b ≡ false
    negated true e = absurd (false≢true e)
    negated false e = refl

    restored : (b : Bool) → b ≡ false → not b ≡ true
    restored b e = ap not e

pub names-Int : (n : ℕ) → names (Int n) ≡ []
names-Int n = names_out _ _ (outs-Int n)

pub names-Null : names Null ≡ []
names-Null = names_out _ _ outs-Null

pub names-Undef : names Undef ≡ []
names-Undef = names_out _ _ outs-Undef

pub names-Poison : names Poison ≡ []
names-Poison = names_out _ _ outs-Poison

pub names-Zero : names Zero ≡ []
names-Zero = names_out _ _ outs-Zero

pub names-Text : (bytes : List ℕ) → names (Text bytes) ≡ []
names-Text bytes = names_out _ _ (outs-Text bytes)

-- Parts name no intrinsic where none of them does.
pub names_parts : (items : List Item) (constant : Const) (parts seen : List Const) (b : Bool) → constant ≡ Many parts → seen ≡ parts → Decides b (All (NamesNoIntrinsic items) seen) → Decides b (NamesNoIntrinsic items constant)
names_parts items constant parts seen b is same decided = (
  λ e. subst P (sym named) (joined seen (decided.0 e)),
  λ h. decided.1 (split seen (subst P named h)),
)
  where
    IsPlain : ℕ → Type 0
    IsPlain place = is_intrinsic_item (slice_get items place) ≡ false

    P : List ℕ → Type 0
    P = All IsPlain

    named : names constant ≡ flat_map names seen
    named = ap names is ∙ names-Many parts ∙ ap (flat_map names) (sym same)

    joined : (parts : List Const) → All (NamesNoIntrinsic items) parts → P (flat_map names parts)
    joined [] all = All-nil IsPlain
    joined (part ∷ parts) all = All-append IsPlain (names part) (flat_map names parts) (All-head (NamesNoIntrinsic items) part parts all) (joined parts (All-tail (NamesNoIntrinsic items) part parts all))

    split : (parts : List Const) → P (flat_map names parts) → All (NamesNoIntrinsic items) parts
    split [] all = All-nil (NamesNoIntrinsic items)
    split (part ∷ parts) all = All-cons (NamesNoIntrinsic items) part parts (All-first IsPlain (names part) (flat_map names parts) all) (split parts (All-second IsPlain (names part) (flat_map names parts) all))
