-- Which text is of the form, and which module it spells.
use Rattle.std.specs.Prelude.{◌≡◌, ℕ, ◌≤◌, Bool, true, false, ◌&&◌, ◌==◌, not, is_none, bytes_eq, IsTrue, List, [], ◌∷◌, length, Option, Some, None}
use Rattle.std.specs.List.{list_all, list_any}
use Rattle.ir_syntax.specs.declared.item.Module.{Module}
use Rattle.straight_form.specs.declared.surface.Line.{Line}
use Rattle.straight_form.specs.declared.surface.Line.TheVariants.{Add, Call}
use Rattle.straight_form.specs.declared.surface.Entity.{Entity}
use Rattle.straight_form.specs.Names.{is_plain_name}
use Rattle.straight_form.specs.Spelled.{IsTextOf}
use Rattle.straight_form.specs.Resolved.{module_of}

-- ---- the form: names without quotes, no labels, and calls of later functions

-- the number of parameters of the definition of a name
abbrev pub params_among : List ℕ → List Entity → Option ℕ
params_among name [] = None
params_among name (e ∷ es) = elim (bytes_eq name e.name) [ true ↦ Some (length e.params) | false ↦ params_among name es ]

abbrev pub takes : Option ℕ → ℕ → Bool
takes None n = false
takes (Some k) n = k == n

-- A called function is among the later ones, and takes as many words as the call gives.
abbrev pub keeps_form : List Entity → Line → Bool
keeps_form later (Add name a b) = is_plain_name name
keeps_form later (Call name callee args) = is_plain_name name && takes (params_among callee later) (length args)

abbrev pub is_straight : List Entity → Entity → Bool
is_straight later e = is_plain_name e.name && list_all is_plain_name e.params && is_none e.label && list_all (keeps_form later) e.lines

abbrev pub are_straight : List Entity → Bool
are_straight [] = true
are_straight (e ∷ es) = is_straight es e && are_straight es

-- the entry is a function that other modules see, of so many parameters
abbrev pub has_entry : List ℕ → ℕ → List Entity → Bool
has_entry entry count es = list_any (λ e. bytes_eq e.name entry && not e.internal && length e.params == count) es

-- The text is of the form for this entry of so many parameters, and spells the module. It has at most 16 MiB.
pub record IsStraightForm (text entry : List ℕ) (count : ℕ) (m : Module) : Type 0 where
  pub size : length text ≤ 16777216
  pub entities : List Entity
  pub spelled : IsTextOf text entities
  pub resolved : module_of entities ≡ Some m
  pub straight : IsTrue (are_straight entities)
  pub entered : IsTrue (has_entry entry count entities)
