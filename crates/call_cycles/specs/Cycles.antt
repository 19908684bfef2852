-- Call cycles of a program.
use Rattle.std.specs.Prelude.{◌≡◌, ℕ, List, [], ◌∷◌, Some, Contains}
use Rattle.std.specs.List.{filter_map, flat_map}
use Rattle.ir_syntax.specs.declared.symbol.Sym.{Sym}
use Rattle.ir_syntax.specs.declared.symbol.Target.TheVariants as target
use Rattle.ir_syntax.specs.declared.body.Body.{Body}
use Rattle.ir_syntax.specs.declared.item.Func.{Func}
use Rattle.ir_syntax.specs.declared.item.Item.TheVariants as item
use Rattle.ir_syntax.specs.Callees.{inst_callee}
use Rattle.ir_syntax.specs.Symbols.{item_at, IsDefinedFunction}
use Rattle.ir_syntax.specs.Targets.{entry_at}
use Rattle.ir_syntax.specs.Programs.{ProgramData}

-- the places of the items whose names are written as callees in a body, in the order of the text
abbrev pub body_callees : Body → List ℕ
body_callees body = flat_map (λ block. filter_map inst_callee block.insts) body.blocks

-- The function at the one symbol calls the one at the other: a call in its body writes the name of an item that stands for the
-- other. Both have bodies. Whether the call can be reached doesn't matter.
pub record Calls (p : ProgramData) (from to : Sym) : Type 0 where
  pub func : Func
  pub stands : item_at p.modules from ≡ Some (item.Func func)
  pub body : Body
  pub has_body : func.body ≡ Some body
  -- the place of the item that is named, in the module of the caller
  pub place : ℕ
  pub named : Contains (body_callees body) place
  pub stands_for : entry_at p.targets (record { «module» = from.module; item = place }) ≡ Some (target.Def to)
  pub defined : IsDefinedFunction (item_at p.modules to)

-- One call or more lead from the one function to the other, by way of these.
abbrev pub LeadsBy : ProgramData → Sym → List Sym → Sym → Type 0
LeadsBy p from [] to = Calls p from to
LeadsBy p from (next ∷ more) to = Calls p from next × LeadsBy p next more to

-- Calls lead from the function to itself.
pub record IsOnCycle (p : ProgramData) (symbol : Sym) : Type 0 where
  pub by_way_of : List Sym
  pub leads : LeadsBy p symbol by_way_of symbol
