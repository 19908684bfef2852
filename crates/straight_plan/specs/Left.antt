-- The module that is left: each function and copy that is asked for, in the order of demands.
use Rattle.std.specs.Prelude.{◌≡◌, ◌≢◌, ◌↔◌, ◌<◌, ◌≤◌, sum_by, ℕ, zero, suc, Bool, true, false, not, ◌&&◌, ◌==◌, pos, List, [], ◌∷◌, map, length, take, slice_get, Contains, count_by, Option, None, Some, option_map, All, AllPairs, if◌then◌else◌}
use Rattle.std.specs.List.{filter_map}
use Rattle.std.specs.declared.cmp.Ordering.TheVariants.{Less}
use Rattle.ir_types.specs.declared.scalar.Known.{Known}
use Rattle.ir_types.specs.declared.scalar.Known.TheVariants.{Unknown, Num, Null}
use Rattle.ir_syntax.specs.declared.constant.Const.TheVariants as const
use Rattle.ir_syntax.specs.declared.constant.Operand.{Operand}
use Rattle.ir_syntax.specs.declared.constant.Operand.TheVariants as operand
use Rattle.ir_syntax.specs.declared.body.Arg.{Arg}
use Rattle.ir_syntax.specs.declared.body.Inst.{Inst}
use Rattle.ir_syntax.specs.declared.body.Inst.TheVariants as inst
use Rattle.ir_syntax.specs.declared.body.Term.{Term}
use Rattle.ir_syntax.specs.declared.body.Term.TheVariants as term
use Rattle.ir_syntax.specs.declared.body.Body.{Body}
use Rattle.ir_syntax.specs.declared.body.Block.{Block}
use Rattle.ir_syntax.specs.declared.item.Func.{Func}
use Rattle.ir_syntax.specs.declared.item.Item.{Item}
use Rattle.ir_syntax.specs.declared.item.Item.TheVariants as item
use Rattle.ir_syntax.specs.declared.item.Module.{Module}
use Rattle.ir_syntax.specs.Straight.{word_type}
use Rattle.demands.specs.Names.{is_unknown, are_unknown, copy_name}
use Rattle.demands.specs.Order.{demand_order}
use Rattle.demands.specs.Demands.{IsFunctionFor}
use Rattle.straight_plan.specs.declared.cut.Ask.{Ask}
use Rattle.straight_plan.specs.declared.cut.Cut.{Cut}
use Rattle.straight_plan.specs.Folding.{IsClosed, IsLeastClosed}
use Rattle.straight_plan.specs.Residual.{put, residual, residual_from, stay_count}
use Rattle.straight_plan.specs.Asked.{demand_of, insts_at, is_copied, known_of, asked, written_callee, needs, IsNeeded}

abbrev pub asks_of : List Cut → List Ask
asks_of plan = map (λ cut. cut.ask) plan

-- ---- plans

-- The functions and copies to be left: with each what it needs, by closed assignments, in the order of demands.
pub record IsPlan (items : List Item) (start : Ask) (plan : List Cut) : Type 0 where
  pub has_start : Contains (asks_of plan) start
  pub folded : All (λ cut. IsClosed cut.ask.pattern (insts_at (slice_get items cut.ask.place)) cut.facts) plan
  pub has_needs : All (λ cut. All (Contains (asks_of plan)) (needs items cut.ask cut.facts)) plan
  -- each is a function with a body, with one item of the pattern for each parameter
  pub functions : All (λ cut. IsFunctionFor cut.ask.pattern (slice_get items cut.ask.place)) plan
  -- what isn't copied has no known arguments
  pub copied : All (λ cut. is_copied items cut.ask.place ≡ false → are_unknown cut.ask.pattern ≡ true) plan
  -- the entry that is left for known arguments isn't left in any other way
  pub alone : are_unknown start.pattern ≡ false → All (λ cut. cut.ask.place ≡ start.place → cut.ask ≡ start) plan
  pub ordered : AllPairs (λ a b. demand_order (demand_of a) (demand_of b) ≡ Less) (asks_of plan)

-- The least plan: just what is needed, by least closed assignments.
pub record IsLeastPlan (items : List Item) (start : Ask) (plan : List Cut) : Type 0 where
  pub exact : (ask : Ask) → Contains (asks_of plan) ask ↔ IsNeeded items start ask
  pub folded : All (λ cut. IsLeastClosed cut.ask.pattern (insts_at (slice_get items cut.ask.place)) cut.facts) plan
  pub ordered : AllPairs (λ a b. demand_order (demand_of a) (demand_of b) ≡ Less) (asks_of plan)

-- ---- numbers and places in what is left

-- the same item of a pattern
abbrev pub same_known : Known → Known → Bool
same_known Unknown Unknown = true
same_known Unknown (Num n) = false
same_known Unknown Null = false
same_known (Num k) Unknown = false
same_known (Num k) (Num n) = k == n
same_known (Num k) Null = false
same_known Null Unknown = false
same_known Null (Num n) = false
same_known Null Null = true

abbrev pub same_pattern : List Known → List Known → Bool
same_pattern [] [] = true
same_pattern [] (q ∷ qs) = false
same_pattern (p ∷ ps) [] = false
same_pattern (p ∷ ps) (q ∷ qs) = same_known p q && same_pattern ps qs

abbrev pub same_ask : Ask → Ask → Bool
same_ask one other = one.place == other.place && same_pattern one.pattern other.pattern

-- the place of what is asked for, among what is left
abbrev pub place_of : List Ask → Ask → ℕ
place_of [] ask = zero
place_of (first ∷ rest) ask = if same_ask first ask then zero else suc (place_of rest ask)

-- The entry that is left for known arguments: it keeps its name and all its parameters.
abbrev pub is_entry : Ask → Ask → Bool
is_entry start ask = ask.place == start.place && not (are_unknown start.pattern)

-- what stands at the unknown items of a pattern
abbrev pub at_unknown : {X : Type 0} → List Known → List X → List X
at_unknown [] xs = []
at_unknown (p ∷ ps) [] = []
at_unknown (p ∷ ps) (x ∷ xs) = if is_unknown p then x ∷ at_unknown ps xs else at_unknown ps xs

-- of the parameters those that are unknown
abbrev pub left_params : {X : Type 0} → Ask → Ask → List X → List X
left_params start ask params = if is_entry start ask then params else at_unknown ask.pattern params

-- the new number of a parameter
abbrev pub left_param : Ask → Ask → ℕ → ℕ
left_param start ask k = if is_entry start ask then k else count_by is_unknown (take k ask.pattern)

abbrev pub renumbered : Ask → Cut → List Inst → Operand → Operand
renumbered start cut insts (operand.Param k) = operand.Param (left_param start cut.ask k)
renumbered start cut insts (operand.Reg k) = operand.Reg (stay_count cut.facts 0 k insts)
renumbered start cut insts (operand.Const c) = operand.Const c

-- an operand of what is left: its value where that is known, else by its new number
abbrev pub left_operand : Ask → Cut → List Inst → Operand → Operand
left_operand start cut insts x = renumbered start cut insts (put cut.ask.pattern cut.facts x)

-- ---- the body

abbrev pub left_arg : Ask → Cut → List Inst → Arg → Arg
left_arg start cut insts arg = record arg { value = renumbered start cut insts arg.value }

-- the call of what is asked for, with the arguments that it leaves unknown
abbrev pub left_call : List Ask → Ask → Cut → List Inst → Ask → List Arg → Inst → Inst
left_call asks start cut insts ask args (inst.Call fn_ty ret_ext callee old) =
    let kept = at_unknown ask.pattern args in
    inst.Call (word_type (length kept)) ret_ext (operand.Const (const.Addr (place_of asks ask) (pos 0))) (map (left_arg start cut insts) kept)
left_call asks start cut insts ask args other = other

abbrev pub left_callee : List Item → List Ask → Ask → Cut → List Inst → Option ℕ → List Arg → Inst → Inst
left_callee items asks start cut insts None args i = i
left_callee items asks start cut insts (Some place) args i = left_call asks start cut insts (asked items place (map (λ arg. known_of arg.value) args)) args i

-- an instruction of the residual body, with new numbers and places
abbrev pub left_inst : List Item → List Ask → Ask → Cut → List Inst → Inst → Inst
left_inst items asks start cut insts (inst.Bin op flags ty a b) = inst.Bin op flags ty (renumbered start cut insts a) (renumbered start cut insts b)
left_inst items asks start cut insts (inst.Icmp pred ty a b) = inst.Icmp pred ty a b
left_inst items asks start cut insts (inst.Select ty cond a b) = inst.Select ty cond a b
left_inst items asks start cut insts (inst.Cast op nneg from to a) = inst.Cast op nneg from to a
left_inst items asks start cut insts (inst.Alloca ty count align) = inst.Alloca ty count align
left_inst items asks start cut insts (inst.Load ty at align) = inst.Load ty at align
left_inst items asks start cut insts (inst.Store ty value at align) = inst.Store ty value at align
left_inst items asks start cut insts (inst.Gep inbounds ty base indices) = inst.Gep inbounds ty base indices
left_inst items asks start cut insts (inst.Call fn_ty ret_ext callee args) = left_callee items asks start cut insts (written_callee callee) args (inst.Call fn_ty ret_ext callee args)

-- what is left of the instructions from the k-th on, which are among these
abbrev pub left_from : List Item → List Ask → Ask → Cut → List Inst → ℕ → List Inst → List Inst
left_from items asks start cut insts k more = map (left_inst items asks start cut insts) (residual_from cut.ask.pattern cut.facts k more)

abbrev pub left_term : Ask → Cut → List Inst → Term → Term
left_term start cut insts term.RetVoid = term.RetVoid
left_term start cut insts (term.Ret ty value) = term.Ret ty (left_operand start cut insts value)
left_term start cut insts (term.Br to) = term.Br to
left_term start cut insts (term.CondBr cond one other) = term.CondBr cond one other
left_term start cut insts (term.Switch ty value default cases) = term.Switch ty value default cases
left_term start cut insts term.Unreachable = term.Unreachable

abbrev pub left_block : List Item → List Ask → Ask → Cut → Block → Block
left_block items asks start cut block = record block { insts = left_from items asks start cut block.insts 0 block.insts; term = left_term start cut block.insts block.term }

abbrev pub left_body : List Item → List Ask → Ask → Cut → Body → Body
left_body items asks start cut body = record { blocks = map (left_block items asks start cut) body.blocks }

-- ---- the module

abbrev pub left_name : Ask → Ask → List ℕ → List ℕ
left_name start ask name = if is_entry start ask then name else copy_name ask.pattern name

abbrev pub left_func : List Item → List Ask → Ask → Cut → Func → Func
left_func items asks start cut f = record f {
  name = left_name start cut.ask f.name;
  params = left_params start cut.ask f.params;
  body = option_map (left_body items asks start cut) f.body;
}

abbrev pub left_item : List Item → List Ask → Ask → Cut → Option Item → Option Item
left_item items asks start cut None = None
left_item items asks start cut (Some (item.Var v)) = None
left_item items asks start cut (Some (item.Func f)) = Some (item.Func (left_func items asks start cut f))

abbrev pub left_items : List Item → Ask → List Cut → List Item
left_items items start plan = filter_map (λ cut. left_item items (asks_of plan) start cut (slice_get items cut.ask.place)) plan

abbrev pub left_module : Module → Ask → List Cut → Module
left_module m start plan = record m { items = left_items m.items start plan }

-- ---- limits

-- how many instructions and terminators a residual body has
abbrev pub size_of : List Item → Cut → ℕ
size_of items cut = suc (length (residual cut.ask.pattern cut.facts (insts_at (slice_get items cut.ask.place))))

-- More than 65,536 functions and copies are needed: there is a list of so many distinct ones.
pub record AreTooMany (items : List Item) (start : Ask) : Type 0 where
  pub asks : List Ask
  pub many : 65536 < length asks
  pub distinct : AllPairs (λ a b. a ≢ b) asks
  pub needed : All (IsNeeded items start) asks

-- At most so many are needed, each listed once by its least closed assignment, and their bodies have more than
-- 8,388,608 instructions and terminators together.
pub record IsTooMuch (items : List Item) (start : Ask) : Type 0 where
  pub cuts : List Cut
  pub exact : (ask : Ask) → Contains (asks_of cuts) ask ↔ IsNeeded items start ask
  pub folded : All (λ cut. IsLeastClosed cut.ask.pattern (insts_at (slice_get items cut.ask.place)) cut.facts) cuts
  pub distinct : AllPairs (λ a b. a ≢ b) (asks_of cuts)
  pub few : length cuts ≤ 65536
  pub much : 8388608 < sum_by (size_of items) cuts

-- a least plan within both limits
pub record IsPlanned (items : List Item) (start : Ask) (plan : List Cut) : Type 0 where
  pub least : IsLeastPlan items start plan
  pub few : length plan ≤ 65536
  pub short : sum_by (size_of items) plan ≤ 8388608

-- ---- counts of the report

-- under its own name
abbrev pub is_original : Ask → Cut → Bool
is_original start cut = if is_entry start cut.ask then true else are_unknown cut.ask.pattern

abbrev pub originals : Ask → List Cut → ℕ
originals start plan = count_by (is_original start) plan

abbrev pub clones : Ask → List Cut → ℕ
clones start plan = count_by (λ cut. not (is_original start cut)) plan
