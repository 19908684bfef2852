-- What a row needs, and its size, as functions of the row.
use Rattle.std.specs.Prelude.{ℕ, Bool, List, [], Option, None, Some, map}
use Rattle.ir_syntax.specs.declared.item.Item.{Item}
use Rattle.ir_syntax.specs.declared.item.Item.TheVariants as item
use Rattle.ir_syntax.specs.Results.{count}
use Rattle.ir_syntax.specs.Symbols.{item_at}
use Rattle.ir_syntax.specs.Programs.{ProgramData}
use Rattle.fold_facts.specs.Places.{blocks_of}
use Rattle.demands.specs.declared.demand.Demand.{Demand}
use Rattle.demands.specs.declared.demand.Demand.TheVariants.{Func as function, Var as variable}
use Rattle.demands.specs.Order.{symbol_of}
use Rattle.demands.specs.Rows.{words_of}
use Rattle.demands.specs.Reading.{read_row}
use Rattle.specialise.specs.Residual.{residual}
use Rattle.specialise.specs.Needs.{body_asks, init_asks}
use Rattle.specialise.specs.Mirrors.Ordered.{ordered}
use Rattle.specialise.specs.Mirrors.Solving.{least_of}

abbrev pub needs_at : ProgramData → List (List Bool) → Demand → Option Item → List (List ℕ)
needs_at p cycles d None = []
needs_at p cycles (variable symbol) (Some (item.Var var)) = ordered (map words_of (init_asks p symbol.module var.init))
needs_at p cycles (variable symbol) (Some (item.Func func)) = []
needs_at p cycles (function symbol pattern) (Some (item.Var var)) = []
needs_at p cycles (function symbol pattern) (Some (item.Func func)) =
    ordered (map words_of (body_asks p cycles symbol.module (residual pattern func (least_of (record { known = pattern }) (blocks_of func))).blocks))

abbrev pub size_at : Demand → Option Item → ℕ
size_at d None = 0
size_at (variable symbol) (Some (item.Var var)) = 0
size_at (variable symbol) (Some (item.Func func)) = 0
size_at (function symbol pattern) (Some (item.Var var)) = 0
size_at (function symbol pattern) (Some (item.Func func)) = count (residual pattern func (least_of (record { known = pattern }) (blocks_of func)))

abbrev pub needs_by : ProgramData → List (List Bool) → Option Demand → List (List ℕ)
needs_by p cycles None = []
needs_by p cycles (Some d) = needs_at p cycles d (item_at p.modules (symbol_of d))

abbrev pub size_by : ProgramData → Option Demand → ℕ
size_by p None = 0
size_by p (Some d) = size_at d (item_at p.modules (symbol_of d))

abbrev pub row_needs : ProgramData → List (List Bool) → List ℕ → List (List ℕ)
row_needs p cycles row = needs_by p cycles (read_row p.modules row)

abbrev pub row_size : ProgramData → List ℕ → ℕ
row_size p row = size_by p (read_row p.modules row)
