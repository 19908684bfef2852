-- Copies whose names are taken.
use Rattle.std.specs.Prelude.{◌≡◌, ℕ, List, [], ◌∷◌, ◌++◌, Option, None, Some, All, Contains, map, flat_map, if◌then◌else◌}
use Rattle.ir_syntax.specs.declared.item.Item.{Item}
use Rattle.ir_syntax.specs.declared.item.Item.TheVariants as item
use Rattle.ir_syntax.specs.declared.item.Module.{Module}
use Rattle.ir_syntax.specs.FormedBody.{item_name}
use Rattle.ir_syntax.specs.Symbols.{item_at}
use Rattle.demands.specs.declared.demand.Demand.{Demand}
use Rattle.demands.specs.Order.{symbol_of}
use Rattle.winnowed_form.specs.declared.member.Member.{Member}
use Rattle.winnowed_form.specs.Basis.{Basis}
use Rattle.winnowed_form.specs.Copies.{is_copy, written_name}

-- the names of all items of all modules, local and declared ones too
abbrev pub item_names : List Module → List (List ℕ)
item_names modules = flat_map (λ m. map item_name m.items) modules

abbrev pub name_at : Basis → Demand → Option Item → List (List ℕ)
name_at b d None = []
name_at b d (Some (item.Var var)) = []
name_at b d (Some (item.Func func)) = written_name b d func ∷ []

-- a copy's name
abbrev pub copy_name_of : Basis → Member → List (List ℕ)
copy_name_of b member = if is_copy b member.demand then name_at b member.demand (item_at b.program.modules (symbol_of member.demand)) else []

-- those of the members that are copies, in their order
abbrev pub copy_names : Basis → List Member → List (List ℕ)
copy_names b members = flat_map (copy_name_of b) members

abbrev pub AreFree : List Module → List (List ℕ) → Type 0
AreFree modules names = All (λ name. Contains (item_names modules) name → ⊥) names

-- The name is an item's, and none before it is.
pub record IsFirstTaken (modules : List Module) (names : List (List ℕ)) (name : List ℕ) : Type 0 where
  pub before : List (List ℕ)
  pub after : List (List ℕ)
  pub stands : names ≡ before ++ name ∷ after
  pub free : AreFree modules before
  pub taken : Contains (item_names modules) name
