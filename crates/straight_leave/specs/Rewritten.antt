-- What is left of instructions and functions, for given places and new numbers.
use Rattle.std.specs.Prelude.{ℕ, Bool, pos, List, map, length, Option, None, Some, option_map, slice_get, if◌then◌else◌}
use Rattle.std.specs.List.{filter_map}
use Rattle.ir_types.specs.declared.scalar.Ext.{Ext}
use Rattle.ir_types.specs.declared.scalar.FnType.{FnType}
use Rattle.ir_types.specs.declared.scalar.Known.{Known}
use Rattle.ir_syntax.specs.declared.constant.Const.TheVariants as const
use Rattle.ir_syntax.specs.declared.constant.Operand.{Operand}
use Rattle.ir_syntax.specs.declared.constant.Operand.TheVariants as operand
use Rattle.ir_syntax.specs.declared.body.Arg.{Arg}
use Rattle.ir_syntax.specs.declared.body.Inst.{Inst}
use Rattle.ir_syntax.specs.declared.body.Inst.TheVariants as inst
use Rattle.ir_syntax.specs.declared.body.Term.{Term}
use Rattle.ir_syntax.specs.declared.body.Term.TheVariants as term
use Rattle.ir_syntax.specs.declared.body.Block.{Block}
use Rattle.ir_syntax.specs.declared.body.Body.{Body}
use Rattle.ir_syntax.specs.declared.item.Func.{Func}
use Rattle.ir_syntax.specs.declared.item.Item.{Item}
use Rattle.ir_syntax.specs.declared.item.Item.TheVariants as item
use Rattle.ir_syntax.specs.Straight.{word_type}
use Rattle.demands.specs.Names.{copy_name}
use Rattle.straight_plan.specs.declared.cut.Ask.{Ask}
use Rattle.straight_plan.specs.declared.cut.Cut.{Cut}
use Rattle.straight_plan.specs.Asked.{known_of, asked, written_callee}
use Rattle.straight_plan.specs.Residual.{put, residual}
use Rattle.straight_plan.specs.Left.{at_unknown, is_entry}
use Rattle.straight_leave.specs.Numbers.{numbered, numbers_of}

-- ---- instructions

abbrev pub new_arg : (Operand → Operand) → Arg → Arg
new_arg number arg = record arg { value = number arg.value }

-- the call of what stands at a place, with the arguments at the unknown items of a pattern
abbrev pub new_call : (Operand → Operand) → ℕ → List Known → Ext → List Arg → Inst
new_call number place pattern ret_ext args =
    let kept = at_unknown pattern args in
    inst.Call (word_type (length kept)) ret_ext (operand.Const (const.Addr place (pos 0))) (map (new_arg number) kept)

abbrev pub asked_by : List Item → ℕ → List Arg → Ask
asked_by items place args = asked items place (map (λ arg. known_of arg.value) args)

abbrev pub new_callee : List Item → (Ask → ℕ) → (Operand → Operand) → FnType → Ext → Operand → List Arg → Option ℕ → Inst
new_callee items find number fn_ty ret_ext callee args None = inst.Call fn_ty ret_ext callee args
new_callee items find number fn_ty ret_ext callee args (Some place) =
    let ask = asked_by items place args in
    new_call number (find ask) ask.pattern ret_ext args

abbrev pub new_inst : List Item → (Ask → ℕ) → (Operand → Operand) → Inst → Inst
new_inst items find number (inst.Bin op flags ty a b) = inst.Bin op flags ty (number a) (number b)
new_inst items find number (inst.Icmp pred ty a b) = inst.Icmp pred ty a b
new_inst items find number (inst.Select ty cond a b) = inst.Select ty cond a b
new_inst items find number (inst.Cast op nneg from to a) = inst.Cast op nneg from to a
new_inst items find number (inst.Alloca ty count align) = inst.Alloca ty count align
new_inst items find number (inst.Load ty at align) = inst.Load ty at align
new_inst items find number (inst.Store ty value at align) = inst.Store ty value at align
new_inst items find number (inst.Gep inbounds ty base indices) = inst.Gep inbounds ty base indices
new_inst items find number (inst.Call fn_ty ret_ext callee args) = new_callee items find number fn_ty ret_ext callee args (written_callee callee)

-- ---- bodies

abbrev pub new_term : (Operand → Operand) → Term → Term
new_term left term.RetVoid = term.RetVoid
new_term left (term.Ret ty value) = term.Ret ty (left value)
new_term left (term.Br to) = term.Br to
new_term left (term.CondBr cond one other) = term.CondBr cond one other
new_term left (term.Switch ty value default cases) = term.Switch ty value default cases
new_term left term.Unreachable = term.Unreachable

abbrev pub new_block : List Item → (Ask → ℕ) → Bool → Cut → Block → Block
new_block items find whole cut block =
    let number = numbered whole cut.ask.pattern (numbers_of cut.facts block.insts) in
    record block {
      insts = map (new_inst items find number) (residual cut.ask.pattern cut.facts block.insts);
      term = new_term (λ x. number (put cut.ask.pattern cut.facts x)) block.term;
    }

abbrev pub new_body : List Item → (Ask → ℕ) → Bool → Cut → Body → Body
new_body items find whole cut body = record { blocks = map (new_block items find whole cut) body.blocks }

-- ---- functions

abbrev pub new_func : List Item → (Ask → ℕ) → Bool → Cut → Func → Func
new_func items find whole cut f = record f {
  name = if whole then f.name else copy_name cut.ask.pattern f.name;
  params = if whole then f.params else at_unknown cut.ask.pattern f.params;
  body = option_map (new_body items find whole cut) f.body;
}

abbrev pub new_item : List Item → (Ask → ℕ) → Bool → Cut → Option Item → Option Item
new_item items find whole cut None = None
new_item items find whole cut (Some (item.Var v)) = None
new_item items find whole cut (Some (item.Func f)) = Some (item.Func (new_func items find whole cut f))

abbrev pub new_items : List Item → (Ask → ℕ) → Ask → List Cut → List Item
new_items items find start plan = filter_map (λ cut. new_item items find (is_entry start cut.ask) cut (slice_get items cut.ask.place)) plan
