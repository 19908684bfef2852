-- The rows of the functions and copies that calls ask for.
use Rattle.std.specs.Prelude.{ℕ, suc, ◌+◌, ◌<◌, ◌≤◌, ◌^◌, List, [], ◌∷◌, map, flat_map, length, slice_get, Option, None, Some, IfSome, if◌then◌else◌}
use Rattle.ir_types.specs.declared.scalar.Known.{Known}
use Rattle.ir_types.specs.declared.scalar.Known.TheVariants.{Unknown}
use Rattle.ir_syntax.specs.declared.body.Arg.{Arg}
use Rattle.ir_syntax.specs.declared.body.Inst.{Inst}
use Rattle.ir_syntax.specs.declared.body.Inst.TheVariants as inst
use Rattle.ir_syntax.specs.declared.item.Item.{Item}
use Rattle.demands.specs.Rows.{words_of}
use Rattle.straight_plan.specs.declared.fact.Fact.{Fact}
use Rattle.straight_plan.specs.declared.fact.Fact.TheVariants.{Unreached, One, Varying}
use Rattle.straight_plan.specs.declared.cut.Ask.{Ask}
use Rattle.straight_plan.specs.Folding.{operand_fact, fact_at}
use Rattle.straight_plan.specs.Residual.{stays}
use Rattle.straight_plan.specs.Asked.{demand_of, asked, written_callee}

-- the row of what is asked for
abbrev pub row_of : Ask → List ℕ
row_of ask = words_of (demand_of ask)

-- the value of a fact
abbrev pub value_of : Fact → Known
value_of Unreached = Unknown
value_of (One v) = v
value_of Varying = Unknown

abbrev pub arg_value : List Known → List Fact → Arg → Known
arg_value pattern facts arg = value_of (operand_fact pattern facts arg.value)

abbrev pub callee_rows : List Item → Option ℕ → List Known → List (List ℕ)
callee_rows items None pattern = []
callee_rows items (Some place) pattern = row_of (asked items place pattern) ∷ []

-- what an instruction asks for, where these facts are known
abbrev pub asked_rows : List Item → List Known → List Fact → Inst → List (List ℕ)
asked_rows items pattern facts (inst.Bin op flags ty a b) = []
asked_rows items pattern facts (inst.Icmp pred ty a b) = []
asked_rows items pattern facts (inst.Select ty cond a b) = []
asked_rows items pattern facts (inst.Cast op nneg from to a) = []
asked_rows items pattern facts (inst.Alloca ty count align) = []
asked_rows items pattern facts (inst.Load ty at align) = []
asked_rows items pattern facts (inst.Store ty value at align) = []
asked_rows items pattern facts (inst.Gep inbounds ty base indices) = []
asked_rows items pattern facts (inst.Call fn_ty ret_ext callee args) = callee_rows items (written_callee callee) (map (arg_value pattern facts) args)

abbrev pub rows_of : List Item → List Known → List Fact → List Inst → List (List ℕ)
rows_of items pattern facts insts = flat_map (asked_rows items pattern facts) insts

-- how many instructions stay, of those from the k-th on
abbrev pub left_count : List Fact → ℕ → List Inst → ℕ
left_count facts k [] = 0
left_count facts k (i ∷ is) = (if stays (fact_at (slice_get facts k)) i then 1 else 0) + left_count facts (suc k) is

-- A row can hold the place that is called, and what is known of each argument.
abbrev pub IsShortCall : Inst → Type 0
IsShortCall (inst.Bin op flags ty a b) = Unit {0}
IsShortCall (inst.Icmp pred ty a b) = Unit {0}
IsShortCall (inst.Select ty cond a b) = Unit {0}
IsShortCall (inst.Cast op nneg from to a) = Unit {0}
IsShortCall (inst.Alloca ty count align) = Unit {0}
IsShortCall (inst.Load ty at align) = Unit {0}
IsShortCall (inst.Store ty value at align) = Unit {0}
IsShortCall (inst.Gep inbounds ty base indices) = Unit {0}
IsShortCall (inst.Call fn_ty ret_ext callee args) = IfSome (written_callee callee) (λ place. place < 2 ^ 32) × (length args ≤ 32)
