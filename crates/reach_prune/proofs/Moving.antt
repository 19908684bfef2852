-- What each form of constant becomes where items have new places.
use Rattle.std.proofs.Common.{◌≡◌, ◌∙◌, ℕ, ℤ, ◌≤◌, List, [], ◌∷◌, ◌++◌, length, map, drop, refl, ap, sym}
use Rattle.std.proofs.lemmas.List.{append-nil, drop_all}
use Rattle.ir_syntax.specs.declared.constant.Const.{Const, out-Const}
use Rattle.ir_syntax.specs.declared.constant.Const.TheBlock.{Int, Null, Addr, Undef, Poison, Zero, Text}
use Rattle.ir_syntax.specs.declared.constant.Const.TheViews.{Many}
use Rattle.ir_syntax.specs.declared.constant.Const.TheOpen.{Const-F}
use Rattle.ir_syntax.specs.declared.constant.Const.TheFolds.{map-Const, fold_out-Const}
use Rattle.ir_syntax.specs.declared.constant.Const.TheVariants.{outs-Int, outs-Null, outs-Addr, outs-Undef, outs-Poison, outs-Zero, outs-Text, outs-Many}
use Rattle.winnowed_form.specs.declared.named.Named.{Named}
use Rattle.winnowed_form.specs.declared.named.Named.TheVariants.{Own}
use Rattle.winnowed_form.specs.Bodies.{moved, moved_step}

moved_out : (place : Named → ℕ) (constant : Const) (x : Const-F Const) → out-Const constant ≡ x → moved place constant ≡ moved_step place (map-Const Const Const (moved place) x)
unfolding moved
moved_out place constant x is = fold_out-Const Const (moved_step place) constant ∙ ap (λ y. moved_step place (map-Const Const Const (moved place) y)) is

pub moved-Int : (place : Named → ℕ) (n : ℕ) → moved place (Int n) ≡ Int n
moved-Int place n = moved_out place _ _ (outs-Int n)

pub moved-Null : (place : Named → ℕ) → moved place Null ≡ Null
moved-Null place = moved_out place _ _ outs-Null

pub moved-Addr : (place : Named → ℕ) (k : ℕ) (offset : ℤ) → moved place (Addr k offset) ≡ Addr (place (Own k)) offset
moved-Addr place k offset = moved_out place _ _ (outs-Addr k offset)

pub moved-Undef : (place : Named → ℕ) → moved place Undef ≡ Undef
moved-Undef place = moved_out place _ _ outs-Undef

pub moved-Poison : (place : Named → ℕ) → moved place Poison ≡ Poison
moved-Poison place = moved_out place _ _ outs-Poison

pub moved-Zero : (place : Named → ℕ) → moved place Zero ≡ Zero
moved-Zero place = moved_out place _ _ outs-Zero

pub moved-Text : (place : Named → ℕ) (bytes : List ℕ) → moved place (Text bytes) ≡ Text bytes
moved-Text place bytes = moved_out place _ _ (outs-Text bytes)

pub moved-Many : (place : Named → ℕ) (parts : List Const) → moved place (Many parts) ≡ Many (map (moved place) parts)
moved-Many place parts = moved_out place _ _ (outs-Many parts)

-- all parts are moved
pub moved_parts : (place : Named → ℕ) (constant : Const) (parts seen made : List Const) (i : ℕ) → constant ≡ Many parts → seen ≡ parts → length seen ≤ i → made ++ map (moved place) (drop i seen) ≡ map (moved place) seen
    → Many made ≡ moved place constant
moved_parts place constant parts seen made i is same past all =
    ap Many (sym (append-nil made) ∙ ap (λ rest. made ++ map (moved place) rest) (sym (drop_all i seen past)) ∙ all ∙ ap (map (moved place)) same) ∙ sym (ap (moved place) is ∙ moved-Many place parts)
