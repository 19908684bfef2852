-- Entries: that no body names the entry that is left for known arguments, and what it keeps.
use Rattle.std.specs.Prelude.{◌≡◌, false, List, Option, None, Some}
use Rattle.ir_syntax.specs.declared.item.Func.{Func}
use Rattle.ir_syntax.specs.declared.item.Item.{Item}
use Rattle.ir_syntax.specs.declared.item.Item.TheVariants as item
use Rattle.demands.specs.Names.{are_unknown}
use Rattle.straight_plan.specs.declared.cut.Ask.{Ask}
use Rattle.straight_plan.specs.Asked.{is_named}

-- No body names an entry of whose arguments something is known.
abbrev pub IsNotNamed : List Item → Ask → Type 0
IsNotNamed items start = are_unknown start.pattern ≡ false → is_named items start.place ≡ false

-- It has the same name, linkage and parameters.
pub record KeepsInterface (old new : Func) : Type 0 where
  pub name : new.name ≡ old.name
  pub linkage : new.linkage ≡ old.linkage
  pub params : new.params ≡ old.params

-- both are functions, and the second keeps the first one's interface
abbrev pub IsLeftOf : Option Item → Option Item → Type 0
IsLeftOf None found = ⊥
IsLeftOf (Some (item.Var v)) found = ⊥
IsLeftOf (Some (item.Func old)) None = ⊥
IsLeftOf (Some (item.Func old)) (Some (item.Var v)) = ⊥
IsLeftOf (Some (item.Func old)) (Some (item.Func new)) = KeepsInterface old new
