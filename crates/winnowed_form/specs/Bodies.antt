-- Bodies and initialisers as they are written: names and parameters have their new places, and calls of copies leave out what is
-- known.
use Rattle.std.specs.Prelude.{ℕ, pos, Bool, List, [], Option, None, Some, map}
use Rattle.ir_types.specs.declared.scalar.Known.{Known}
use Rattle.ir_types.specs.declared.scalar.Ext.{Ext}
use Rattle.ir_types.specs.declared.scalar.FnType.{FnType}
use Rattle.ir_syntax.specs.declared.constant.Const.{Const}
use Rattle.ir_syntax.specs.declared.constant.Const.TheVariants as const
use Rattle.ir_syntax.specs.declared.constant.Const.TheOpen.{Const-F}
use Rattle.ir_syntax.specs.declared.constant.Const.TheFolds.{fold-Const}
use Rattle.ir_syntax.specs.declared.constant.Operand.{Operand}
use Rattle.ir_syntax.specs.declared.constant.Operand.TheVariants as operand
use Rattle.ir_syntax.specs.declared.body.Arg.{Arg}
use Rattle.ir_syntax.specs.declared.body.Inst.{Inst}
use Rattle.ir_syntax.specs.declared.body.Inst.TheVariants.{Bin, Icmp, Select, Cast, Alloca, Load, Store, Gep, Call}
use Rattle.ir_syntax.specs.declared.body.Block.{Block}
use Rattle.ir_syntax.specs.declared.body.Body.{Body}
use Rattle.ir_syntax.specs.Callees.{written_callee}
use Rattle.ir_syntax.specs.Mapped.{map_arg, map_operands, map_phi, map_term}
use Rattle.demands.specs.Names.{is_unknown}
use Rattle.demands.specs.Order.{pattern_of}
use Rattle.interface.specs.Masks.{chosen, rank}
use Rattle.interface.specs.Summaries.{known_of}
use Rattle.winnowed_form.specs.declared.named.Named.{Named}
use Rattle.winnowed_form.specs.declared.named.Named.TheVariants.{Own, CopyOf}
use Rattle.winnowed_form.specs.Basis.{Basis}
use Rattle.winnowed_form.specs.Names.{call_name}

-- How a member of a module is written: the new place of each name, and which parameters stay.
pub record Writing : Type 0 where
  pub basis : Basis
  pub home : ℕ
  pub place : Named → ℕ
  pub stays : List Bool

-- ---- constants and operands

-- a constant with the new place of each item that it names
abbrev pub moved_step : (Named → ℕ) → Const-F Const → Const
moved_step place (Const-F.Int n) = const.Int n
moved_step place Const-F.Null = const.Null
moved_step place (Const-F.Addr k offset) = const.Addr (place (Own k)) offset
moved_step place Const-F.Undef = const.Undef
moved_step place Const-F.Poison = const.Poison
moved_step place Const-F.Zero = const.Zero
moved_step place (Const-F.Text bytes) = const.Text bytes
moved_step place (Const-F.Many parts) = const.Many parts

unfoldable pub moved : (Named → ℕ) → Const → Const
moved place = fold-Const Const (moved_step place)

abbrev pub written_operand : Writing → Operand → Operand
written_operand w (operand.Param k) = operand.Param (rank w.stays k)
written_operand w (operand.Reg k) = operand.Reg k
written_operand w (operand.Const constant) = operand.Const (moved w.place constant)

-- ---- calls

-- A call of a copy keeps what isn't known, and every other call all.
abbrev pub kept : {X : Type 0} → Named → List X → List X
kept (Own k) xs = xs
kept (CopyOf d) xs = chosen (map is_unknown (pattern_of d)) xs

-- a call of the item or copy
abbrev pub call_to : Writing → FnType → Ext → List Arg → Named → Inst
call_to w fn_ty ret_ext args named =
    Call (record fn_ty { params = kept named fn_ty.params }) ret_ext (operand.Const (const.Addr (w.place named) (pos 0))) (map (map_arg (written_operand w)) (kept named args))

abbrev pub known_args : List Arg → List Known
known_args args = map (known_of (record { known = [] }) []) (map (λ arg. arg.value) args)

abbrev pub written_call : Writing → FnType → Ext → Operand → List Arg → Option ℕ → Inst
written_call w fn_ty ret_ext callee args None = map_operands (written_operand w) (Call fn_ty ret_ext callee args)
written_call w fn_ty ret_ext callee args (Some k) = call_to w fn_ty ret_ext args (call_name w.basis w.home (k, known_args args))

-- ---- bodies

abbrev pub written_inst : Writing → Inst → Inst
written_inst w (Bin op flags ty a b) = map_operands (written_operand w) (Bin op flags ty a b)
written_inst w (Icmp pred ty a b) = map_operands (written_operand w) (Icmp pred ty a b)
written_inst w (Select ty cond a b) = map_operands (written_operand w) (Select ty cond a b)
written_inst w (Cast op nneg from to a) = map_operands (written_operand w) (Cast op nneg from to a)
written_inst w (Alloca ty count align) = Alloca ty count align
written_inst w (Load ty at align) = map_operands (written_operand w) (Load ty at align)
written_inst w (Store ty value at align) = map_operands (written_operand w) (Store ty value at align)
written_inst w (Gep inbounds ty base indices) = map_operands (written_operand w) (Gep inbounds ty base indices)
written_inst w (Call fn_ty ret_ext callee args) = written_call w fn_ty ret_ext callee args (written_callee callee)

abbrev pub written_block : Writing → Block → Block
written_block w block = record {
  phis = map (map_phi (written_operand w)) block.phis;
  insts = map (written_inst w) block.insts;
  term = map_term (written_operand w) block.term;
}

abbrev pub written_body : Writing → Body → Body
written_body w body = record { blocks = map (written_block w) body.blocks }
