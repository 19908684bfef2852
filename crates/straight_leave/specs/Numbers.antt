-- The new numbers of parameters and results, by a table.
use Rattle.std.specs.Prelude.{ℕ, suc, ◌+◌, ◌-◌, Bool, List, [], ◌∷◌, Option, Some, None, length, take, slice_get, count_by, if◌then◌else◌}
use Rattle.ir_types.specs.declared.scalar.Known.{Known}
use Rattle.ir_syntax.specs.declared.constant.Operand.{Operand}
use Rattle.ir_syntax.specs.declared.constant.Operand.TheVariants as operand
use Rattle.ir_syntax.specs.declared.body.Inst.{Inst}
use Rattle.demands.specs.Names.{is_unknown}
use Rattle.straight_plan.specs.declared.fact.Fact.{Fact}
use Rattle.straight_plan.specs.Folding.{fact_at}
use Rattle.straight_plan.specs.Residual.{stays}

-- For each of these instructions, and at the end, how many stay before it. The first is the k-th, and `before` stay
-- before it.
abbrev pub numbers_from : List Fact → ℕ → ℕ → List Inst → List ℕ
numbers_from facts k before [] = before ∷ []
numbers_from facts k before (i ∷ is) = before ∷ numbers_from facts (suc k) (before + (if stays (fact_at (slice_get facts k)) i then 1 else 0)) is

abbrev pub numbers_of : List Fact → List Inst → List ℕ
numbers_of facts insts = numbers_from facts 0 0 insts

abbrev pub number_or_last : Option ℕ → Option ℕ → ℕ
number_or_last (Some number) last = number
number_or_last None (Some last) = last
number_or_last None None = 0

-- the number at a place, and the last one past the end
abbrev pub number_at : List ℕ → ℕ → ℕ
number_at numbers k = number_or_last (slice_get numbers k) (slice_get numbers (length numbers - 1))

-- how many of the first k items are unknown
abbrev pub unknown_before : List Known → ℕ → ℕ
unknown_before pattern k = count_by is_unknown (take k pattern)

-- An operand with its new number. `whole` says that all parameters are left.
abbrev pub numbered : Bool → List Known → List ℕ → Operand → Operand
numbered whole pattern numbers (operand.Param k) = operand.Param (if whole then k else unknown_before pattern k)
numbered whole pattern numbers (operand.Reg k) = operand.Reg (number_at numbers k)
numbered whole pattern numbers (operand.Const c) = operand.Const c
