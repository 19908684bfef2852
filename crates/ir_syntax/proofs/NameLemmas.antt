-- The items that each form of constant names.
use Rattle.std.proofs.Common.{◌≡◌, ℕ, ℤ, ◌≤◌, List, [], ◌∷◌, ◌++◌, length, map, drop, refl, ap, sym, ◌∙◌}
use Rattle.std.specs.List.{flat_map}
use Rattle.std.proofs.lemmas.List.{append-nil, drop_all}
use Rattle.ir_syntax.specs.declared.constant.Const.{Const, out-Const}
use Rattle.ir_syntax.specs.declared.constant.Const.TheBlock.{Int, Null, Addr, Undef, Poison, Zero, Text}
use Rattle.ir_syntax.specs.declared.constant.Const.TheViews.{Many}
use Rattle.ir_syntax.specs.declared.constant.Const.TheOpen.{Const-F}
use Rattle.ir_syntax.specs.declared.constant.Const.TheFolds.{map-Const, fold_out-Const}
use Rattle.ir_syntax.specs.declared.constant.Const.TheVariants.{outs-Int, outs-Null, outs-Addr, outs-Undef, outs-Poison, outs-Zero, outs-Text, outs-Many}
use Rattle.ir_syntax.specs.Named.{names, names_step}

-- the items that a constant names, by its layer
names_out : (constant : Const) (x : Const-F Const) → out-Const constant ≡ x → names constant ≡ names_step (map-Const Const (List ℕ) names x)
unfolding names
names_out constant x is = fold_out-Const (List ℕ) names_step constant ∙ ap (λ y. names_step (map-Const Const (List ℕ) names y)) is

pub names-Int : (n : ℕ) → names (Int n) ≡ []
names-Int n = names_out _ _ (outs-Int n)

pub names-Null : names Null ≡ []
names-Null = names_out _ _ outs-Null

pub names-Addr : (place : ℕ) (offset : ℤ) → names (Addr place offset) ≡ place ∷ []
names-Addr place offset = names_out _ _ (outs-Addr place offset)

pub names-Undef : names Undef ≡ []
names-Undef = names_out _ _ outs-Undef

pub names-Poison : names Poison ≡ []
names-Poison = names_out _ _ outs-Poison

pub names-Zero : names Zero ≡ []
names-Zero = names_out _ _ outs-Zero

pub names-Text : (bytes : List ℕ) → names (Text bytes) ≡ []
names-Text bytes = names_out _ _ (outs-Text bytes)

pub names-Many : (parts : List Const) → names (Many parts) ≡ flat_map names parts
names-Many parts = names_out _ _ (outs-Many parts) ∙ joined parts
  where
    joined : (parts : List Const) → flat_map (λ part. part) (map names parts) ≡ flat_map names parts
    joined [] = refl
    joined (part ∷ parts) = ap (λ rest. names part ++ rest) (joined parts)

-- what a constant adds to a list of names
pub adds_none : (named : List ℕ) (constant : Const) → names constant ≡ [] → named ≡ named ++ names constant
adds_none named constant none = sym (ap (λ more. named ++ more) none ∙ append-nil named)

pub adds_parts : (named before : List ℕ) (constant : Const) (parts seen : List Const) (i : ℕ) → constant ≡ Many parts → seen ≡ parts → length seen ≤ i → named ++ flat_map names (drop i seen) ≡ before ++ flat_map names seen → named ≡ before ++ names constant
adds_parts named before constant parts seen i is same past all =
    sym (ap (λ rest. named ++ flat_map names rest) (drop_all i seen past) ∙ append-nil named)
    ∙ all
    ∙ ap (λ xs. before ++ flat_map names xs) same
    ∙ ap (λ more. before ++ more) (sym (ap names is ∙ names-Many parts))
