-- What bodies and initialisers need.
use Rattle.std.specs.Prelude.{ℕ, Bool, List, [], ◌++◌, Option, All, Contains, flat_map, map, option_and_then}
use Rattle.std.specs.List.{filter_map}
use Rattle.std.specs.List.Sorted.{IsStrictlySortedBy}
use Rattle.std.specs.Ordering.{nat_cmp}
use Rattle.std.specs.Cmp.Lexicographic.{slice_cmp}
use Rattle.ir_syntax.specs.declared.body.Inst.{Inst}
use Rattle.ir_syntax.specs.declared.body.Block.{Block}
use Rattle.ir_syntax.specs.declared.constant.Const.{Const}
use Rattle.ir_syntax.specs.Named.{init_names}
use Rattle.ir_syntax.specs.Programs.{ProgramData}
use Rattle.demands.specs.declared.demand.Demand.{Demand}
use Rattle.demands.specs.Rows.{words_of}
use Rattle.interface.specs.Asked.{called, named}
use Rattle.interface.specs.Names.{call_of, block_others}
use Rattle.interface.specs.Summaries.{known_of}

-- what the call of an instruction asks for: in a residual body an argument is known where it is a number or null
abbrev pub inst_asks : ProgramData → List (List Bool) → ℕ → Inst → Option Demand
inst_asks p cycles home inst = option_and_then (called p cycles home) (call_of (known_of (record { known = [] }) []) inst)

abbrev pub block_asks : ProgramData → List (List Bool) → ℕ → Block → List Demand
block_asks p cycles home block = filter_map (inst_asks p cycles home) block.insts ++ filter_map (named p home) (block_others block)

-- the blocks of a residual body, in a module
abbrev pub body_asks : ProgramData → List (List Bool) → ℕ → List Block → List Demand
body_asks p cycles home blocks = flat_map (block_asks p cycles home) blocks

-- an initialiser
abbrev pub init_asks : ProgramData → ℕ → Option Const → List Demand
init_asks p home init = filter_map (named p home) (init_names init)

-- These rows in row order, each once.
pub record AreInOrder (asked rows : List (List ℕ)) : Type 0 where
  pub sorted : IsStrictlySortedBy (slice_cmp nat_cmp) rows
  pub all : All (Contains rows) asked
  pub only : All (Contains asked) rows

abbrev pub AreRowsOf : List Demand → List (List ℕ) → Type 0
AreRowsOf demands rows = AreInOrder (map words_of demands) rows
