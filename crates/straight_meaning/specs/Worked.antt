-- Modules worked by hand: a call with a known argument, and additions that fold.
use Rattle.std.specs.Prelude.{ℕ, pos, false, codes, length, replicate, List, [], ◌∷◌, Some, None}
use Rattle.ir_types.specs.declared.scalar.Scalar.TheVariants.{I32}
use Rattle.ir_types.specs.declared.scalar.Ext.TheVariants.{Plain}
use Rattle.ir_types.specs.declared.scalar.BinOp.TheVariants as op
use Rattle.ir_types.specs.declared.scalar.Known.{Known}
use Rattle.ir_types.specs.declared.scalar.Known.TheVariants.{Unknown, Num}
use Rattle.ir_syntax.specs.declared.constant.Const.TheVariants as const
use Rattle.ir_syntax.specs.declared.constant.Operand.{Operand}
use Rattle.ir_syntax.specs.declared.constant.Operand.TheVariants as operand
use Rattle.ir_syntax.specs.declared.body.Arg.{Arg}
use Rattle.ir_syntax.specs.declared.body.Inst.{Inst}
use Rattle.ir_syntax.specs.declared.body.Inst.TheVariants as inst
use Rattle.ir_syntax.specs.declared.item.Item.{Item}
use Rattle.ir_syntax.specs.declared.item.Item.TheVariants as item
use Rattle.ir_syntax.specs.declared.item.Linkage.{Linkage}
use Rattle.ir_syntax.specs.declared.item.Linkage.TheVariants.{External, Internal}
use Rattle.ir_syntax.specs.declared.item.Module.{Module}
use Rattle.ir_syntax.specs.Straight.{no_flags, word_param, word_type, straight_body}
use Rattle.straight_plan.specs.declared.fact.Fact.{Fact}
use Rattle.straight_plan.specs.declared.fact.Fact.TheVariants.{One, Varying}
use Rattle.straight_plan.specs.declared.cut.Ask.{Ask}
use Rattle.straight_plan.specs.declared.cut.Cut.{Cut}
use Rattle.straight_meaning.specs.declared.value.Val.TheVariants as val
use Rattle.straight_meaning.specs.declared.session.Session.{Session}
use Rattle.straight_meaning.specs.declared.session.Event.TheVariants as event
use Rattle.straight_meaning.specs.declared.session.Phase.TheVariants as phase
use Rattle.straight_meaning.specs.declared.session.Run.{Run}

-- ---- parts of functions

abbrev pub function : List ℕ → Linkage → ℕ → List Inst → Operand → Item
function name linkage params insts value = item.Func (record {
  name = name;
  linkage = linkage;
  returns = Some I32;
  ret_ext = Plain;
  params = replicate params word_param;
  variadic = false;
  body = Some (straight_body insts value);
})

abbrev pub integer : ℕ → Operand
integer n = operand.Const (const.Int n)

abbrev pub sum_of : Operand → Operand → Inst
sum_of a b = inst.Bin op.Add no_flags I32 a b

abbrev pub passed : Operand → Arg
passed value = record { ty = I32; ext = Plain; value = value }

abbrev pub call_of : ℕ → List Arg → Inst
call_of place args = inst.Call (word_type (length args)) Plain (operand.Const (const.Addr place (pos 0))) args

abbrev pub module_with : List Item → Module
module_with items = record { layout = None; triple = None; items = items }

abbrev pub ask_for : ℕ → List Known → Ask
ask_for place pattern = record { place = place; pattern = pattern }

abbrev pub cut_for : Ask → List Fact → Cut
cut_for ask facts = record { ask = ask; facts = facts }

-- ---- a call with a known argument

-- define i32 @main(i32 %x) { %r = call i32 @add(i32 3, i32 %x) ret i32 %r }
-- define internal i32 @add(i32 %p, i32 %q) { %s = add i32 %p, %q ret i32 %s }
abbrev pub main : Item
main = function (codes "main") External 1 (call_of 1 (passed (integer 3) ∷ passed (operand.Param 0) ∷ []) ∷ []) (operand.Reg 0)

abbrev pub add : Item
add = function (codes "add") Internal 2 (sum_of (operand.Param 0) (operand.Param 1) ∷ []) (operand.Reg 0)

abbrev pub whole : Module
whole = module_with (main ∷ add ∷ [])

-- main with nothing known, and add where its first argument is 3
abbrev pub start : Ask
start = ask_for 0 (Unknown ∷ [])

abbrev pub plan : List Cut
plan = cut_for start (Varying ∷ []) ∷ cut_for (ask_for 1 (Num 3 ∷ Unknown ∷ [])) (Varying ∷ []) ∷ []

-- define i32 @main(i32 %x) { %r = call i32 @"(3,_)add"(i32 %x) ret i32 %r }
-- define internal i32 @"(3,_)add"(i32 %q) { %s = add i32 3, %q ret i32 %s }
abbrev pub left_main : Item
left_main = function (codes "main") External 1 (call_of 1 (passed (operand.Param 0) ∷ []) ∷ []) (operand.Reg 0)

abbrev pub copy_with : ℕ → Item
copy_with n = function (codes "(3,_)add") Internal 1 (sum_of (integer n) (operand.Param 0) ∷ []) (operand.Reg 0)

abbrev pub left : Module
left = module_with (left_main ∷ copy_with 3 ∷ [])

-- what would be left wrongly: main alone, or a copy with another number
abbrev pub main_alone : Module
main_alone = module_with (left_main ∷ [])

abbrev pub wrong_copy : Module
wrong_copy = module_with (left_main ∷ copy_with 2 ∷ [])

-- ---- additions that fold

-- define i32 @main(i32 %x) { %a = add i32 1, 2 %b = add i32 %a, %x ret i32 %b }
abbrev pub folded : Module
folded = module_with (function (codes "main") External 1 (sum_of (integer 1) (integer 2) ∷ sum_of (operand.Reg 0) (operand.Param 0) ∷ []) (operand.Reg 1) ∷ [])

-- with nothing known of x the first addition folds
abbrev pub folded_plan : List Cut
folded_plan = cut_for start (One (Num 3) ∷ Varying ∷ []) ∷ []

-- define i32 @main(i32 %x) { %b = add i32 3, %x ret i32 %b }
abbrev pub folded_left : Module
folded_left = module_with (function (codes "main") External 1 (sum_of (integer 3) (operand.Param 0) ∷ []) (operand.Reg 0) ∷ [])

-- where x is 4 both fold
abbrev pub known_start : Ask
known_start = ask_for 0 (Num 4 ∷ [])

abbrev pub known_plan : List Cut
known_plan = cut_for known_start (One (Num 3) ∷ One (Num 7) ∷ []) ∷ []

-- define i32 @main(i32 %x) { ret i32 7 }
abbrev pub known_left : Module
known_left = module_with (function (codes "main") External 1 [] (integer 7) ∷ [])

-- ---- sessions

-- main is called once, with 4
abbrev pub one_call : Session
one_call = record { roots = record { func = record { «module» = 0; item = 0 }; args = 4 ∷ [] } ∷ []; replies = [] }

-- it has returned the value after so many steps
abbrev pub returned : ℕ → ℕ → Run
returned value steps = record { trace = event.Returned (Some (val.Num value)) ∷ []; phase = phase.Finished; steps = steps }

-- and hasn't yet
abbrev pub running : ℕ → Run
running steps = record { trace = []; phase = phase.Running; steps = steps }
