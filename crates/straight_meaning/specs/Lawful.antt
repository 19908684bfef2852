-- Which plans the laws of the meaning speak of.
use Rattle.std.specs.Prelude.{◌≡◌, ◌≢◌, ℕ, List, All, slice_get, Option, Some}
use Rattle.ir_types.specs.declared.scalar.Known.{Known}
use Rattle.ir_syntax.specs.declared.item.Module.{Module}
use Rattle.ir_syntax.specs.FormedBody.{item_name}
use Rattle.ir_syntax.specs.Straight.{IsStraight}
use Rattle.demands.specs.Demands.{IsFunctionFor}
use Rattle.straight_plan.specs.declared.cut.Ask.{Ask}
use Rattle.straight_plan.specs.declared.cut.Cut.{Cut}
use Rattle.straight_plan.specs.Asked.{root}
use Rattle.straight_plan.specs.Left.{IsPlan}

-- the name begins as that of a copy does
abbrev pub first_byte : List ℕ → Option ℕ
first_byte name = slice_get name 0

-- A plan for the entry of a module of straight-line functions, with what is known of its arguments.
pub record IsFor (m : Module) (entry : ℕ) (args : List Known) (start : Ask) (plan : List Cut) : Type 0 where
  pub straight : IsStraight m
  -- no function has a name that a copy may have
  pub apart : All (λ i. first_byte (item_name i) ≢ Some 40) m.items
  pub takes : IsFunctionFor args (slice_get m.items entry)
  pub rooted : start ≡ root m.items entry args
  pub planned : IsPlan m.items start plan
