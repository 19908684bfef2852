-- Which demands are written as copies, and what copies keep of their functions.
use Rattle.std.specs.Prelude.{ℕ, Bool, true, false, not, ◌&&◌, List, map, if◌then◌else◌}
use Rattle.ir_types.specs.declared.scalar.Known.{Known}
use Rattle.ir_syntax.specs.declared.symbol.Sym.{Sym}
use Rattle.ir_syntax.specs.declared.item.Func.{Func}
use Rattle.ir_syntax.specs.declared.item.Param.{Param}
use Rattle.demands.specs.declared.demand.Demand.{Demand}
use Rattle.demands.specs.declared.demand.Demand.TheVariants.{Func as function, Var as variable}
use Rattle.demands.specs.Names.{is_unknown, are_unknown, copy_name}
use Rattle.demands.specs.Order.{pattern_of}
use Rattle.demands.specs.Rows.{words_of}
use Rattle.interface.specs.Masks.{chosen}
use Rattle.winnowed_form.specs.Basis.{Basis, is_row}

-- A copy is a function of whose parameters something is known. The entry's root is none, whatever is known of it.
abbrev pub is_copy : Basis → Demand → Bool
is_copy b (variable symbol) = false
is_copy b (function symbol pattern) = not (are_unknown pattern) && not (is_row b.entry (words_of (function symbol pattern)))

-- a copy's name, and else the function's own
abbrev pub written_name : Basis → Demand → Func → List ℕ
written_name b d func = if is_copy b d then copy_name (pattern_of d) func.name else func.name

-- which parameters stay: of a copy those that aren't known, and else all
abbrev pub staying : Basis → Demand → Func → List Bool
staying b d func = if is_copy b d then map is_unknown (pattern_of d) else map (λ param. true) func.params

abbrev pub written_params : Basis → Demand → Func → List Param
written_params b d func = chosen (staying b d func) func.params
