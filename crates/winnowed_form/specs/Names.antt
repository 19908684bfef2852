-- What members name. In a module a name is that of the module's own item at a place, or that of a copy.
use Rattle.std.specs.Prelude.{ℕ, List, [], ◌++◌, Option, None, Some, map, flat_map, option_map, if◌then◌else◌}
use Rattle.std.specs.List.{filter_map}
use Rattle.ir_types.specs.declared.scalar.Known.{Known}
use Rattle.ir_syntax.specs.declared.body.Inst.{Inst}
use Rattle.ir_syntax.specs.declared.body.Block.{Block}
use Rattle.ir_syntax.specs.declared.body.Body.{Body}
use Rattle.ir_syntax.specs.declared.item.Item.{Item}
use Rattle.ir_syntax.specs.declared.item.Item.TheVariants as item
use Rattle.ir_syntax.specs.Named.{init_names}
use Rattle.ir_syntax.specs.Symbols.{item_at}
use Rattle.demands.specs.declared.demand.Demand.{Demand}
use Rattle.demands.specs.declared.demand.Demand.TheVariants.{Func as function, Var as variable}
use Rattle.demands.specs.Order.{symbol_of}
use Rattle.interface.specs.Asked.{called}
use Rattle.interface.specs.Names.{call_of, block_others}
use Rattle.interface.specs.Summaries.{known_of}
use Rattle.winnowed_form.specs.declared.named.Named.{Named}
use Rattle.winnowed_form.specs.declared.named.Named.TheVariants.{Own, CopyOf}
use Rattle.winnowed_form.specs.declared.member.Member.{Member}
use Rattle.winnowed_form.specs.Basis.{Basis}
use Rattle.winnowed_form.specs.Copies.{is_copy}

-- what a demand is written as that the item at a place stands for
abbrev pub written_as : Basis → ℕ → Option Demand → Named
written_as b place None = Own place
written_as b place (Some d) = if is_copy b d then CopyOf d else Own place

-- what a member is written as
abbrev pub name_of : Basis → Member → Named
name_of b member = written_as b (symbol_of member.demand).item (Some member.demand)

-- A call of the item at a place, where this is known of the arguments, goes to what it asks for.
abbrev pub call_name : Basis → ℕ → ℕ × List Known → Named
call_name b home call = written_as b call.0 (called b.program b.cycles home call)

-- In a residual body an argument is known where it is a number or null.
abbrev pub inst_name : Basis → ℕ → Inst → Option Named
inst_name b home inst = option_map (call_name b home) (call_of (known_of (record { known = [] }) []) inst)

-- all that a block names: what it calls by names, and its other names
abbrev pub block_uses : Basis → ℕ → Block → List Named
block_uses b home block = filter_map (inst_name b home) block.insts ++ map Own (block_others block)

abbrev pub body_uses : Basis → ℕ → Option Body → List Named
body_uses b home None = []
body_uses b home (Some body) = flat_map (block_uses b home) body.blocks

-- an initialiser
abbrev pub item_uses : Option Item → List Named
item_uses None = []
item_uses (Some (item.Var var)) = map Own (init_names var.init)
item_uses (Some (item.Func func)) = []

-- A function names what its residual body does, and a variable what its initialiser does.
abbrev pub uses_by : Basis → ℕ → Demand → Option Body → List Named
uses_by b home (variable symbol) body = item_uses (item_at b.program.modules symbol)
uses_by b home (function symbol pattern) body = body_uses b home body

abbrev pub uses : Basis → ℕ → Member → List Named
uses b home member = uses_by b home member.demand member.body
