-- What it says that a row gives no demand.
use Rattle.std.specs.Prelude.{◌≡◌, ℕ, List, Option, None}
use Rattle.ir_syntax.specs.declared.item.Module.{Module}
use Rattle.demands.specs.declared.demand.Demand.{Demand}
use Rattle.demands.specs.declared.reading.RowFault.{RowFault}
use Rattle.demands.specs.declared.reading.RowFault.TheVariants.{NoDemand, OutOfMemory}
use Rattle.demands.specs.Rows.{words_of}
use Rattle.demands.specs.Demands.{IsDemand}

-- No demand of the program has this row. Want of memory has no cause.
abbrev pub IsCause : List Module → List ℕ → RowFault → Type 0
IsCause modules row NoDemand = (d : Demand) → IsDemand modules d → words_of d ≡ row → ⊥
IsCause modules row OutOfMemory = Unit {0}

-- the same of what is read
abbrev pub IsNoneOrNoMemory : {A : Type 0} → Option A → RowFault → Type 0
IsNoneOrNoMemory found NoDemand = found ≡ None
IsNoneOrNoMemory found OutOfMemory = Unit {0}
