-- Numbers of a module as the machine has them: bytes below 256, counts below 2^64, and offsets of 64 bits with a sign.
use Rattle.std.specs.Prelude.{ℕ, ℤ, pos, negsuc, ◌<◌, ◌^◌, Bool, true, ◌&&◌, nat_lt, List, All, IfSome, IsTrue}
use Rattle.std.specs.List.{list_all}
use Rattle.ir_types.specs.declared.shape.Ty.{Ty}
use Rattle.ir_types.specs.declared.shape.Ty.TheOpen.{Ty-F}
use Rattle.ir_types.specs.declared.shape.Ty.TheFolds.{fold-Ty}
use Rattle.ir_syntax.specs.declared.constant.Const.{Const}
use Rattle.ir_syntax.specs.declared.constant.Const.TheOpen.{Const-F}
use Rattle.ir_syntax.specs.declared.constant.Const.TheFolds.{fold-Const}
use Rattle.ir_syntax.specs.declared.constant.Operand.{Operand}
use Rattle.ir_syntax.specs.declared.constant.Operand.TheVariants as operand
use Rattle.ir_syntax.specs.declared.body.Phi.{Phi}
use Rattle.ir_syntax.specs.declared.body.Inst.{Inst}
use Rattle.ir_syntax.specs.declared.body.Inst.TheVariants as inst
use Rattle.ir_syntax.specs.declared.body.Term.{Term}
use Rattle.ir_syntax.specs.declared.body.Term.TheVariants as term
use Rattle.ir_syntax.specs.declared.body.Block.{Block}
use Rattle.ir_syntax.specs.declared.item.Item.{Item}
use Rattle.ir_syntax.specs.declared.item.Item.TheVariants as item
use Rattle.ir_syntax.specs.declared.item.Module.{Module}

-- bytes among numbers
abbrev pub AreBytes : List ℕ → Type 0
AreBytes bytes = All (λ byte. byte < 256) bytes

abbrev pub type_in_range : Ty-F Bool → Bool
type_in_range (Ty-F.One ty) = true
type_in_range (Ty-F.Array count element) = nat_lt count (2 ^ 64) && element
type_in_range (Ty-F.Struct fields) = list_all (λ field. field) fields

unfoldable pub is_type_in_range : Ty → Bool
is_type_in_range = fold-Ty Bool type_in_range

-- a signed number of 64 bits
abbrev pub is_offset : ℤ → Bool
is_offset (pos n) = nat_lt n (2 ^ 63)
is_offset (negsuc n) = nat_lt n (2 ^ 63)

abbrev pub constant_in_range : Const-F Bool → Bool
constant_in_range (Const-F.Addr place offset) = is_offset offset
constant_in_range (Const-F.Text bytes) = list_all (λ byte. nat_lt byte 256) bytes
constant_in_range (Const-F.Many parts) = list_all (λ part. part) parts
constant_in_range _ = true

unfoldable pub is_constant_in_range : Const → Bool
is_constant_in_range = fold-Const Bool constant_in_range

abbrev pub is_operand_in_range : Operand → Bool
is_operand_in_range (operand.Const constant) = is_constant_in_range constant
is_operand_in_range _ = true

abbrev pub is_inst_in_range : Inst → Bool
is_inst_in_range (inst.Bin op flags ty a b) = is_operand_in_range a && is_operand_in_range b
is_inst_in_range (inst.Icmp pred ty a b) = is_operand_in_range a && is_operand_in_range b
is_inst_in_range (inst.Select ty cond a b) = is_operand_in_range cond && is_operand_in_range a && is_operand_in_range b
is_inst_in_range (inst.Cast op nneg from to a) = is_operand_in_range a
is_inst_in_range (inst.Alloca ty count align) = is_type_in_range ty && nat_lt count (2 ^ 64)
is_inst_in_range (inst.Load ty at align) = is_operand_in_range at
is_inst_in_range (inst.Store ty value at align) = is_operand_in_range value && is_operand_in_range at
is_inst_in_range (inst.Gep inbounds ty base indices) = is_type_in_range ty && is_operand_in_range base && list_all (λ index. is_operand_in_range index.1) indices
is_inst_in_range (inst.Call fn_ty ret_ext callee args) = is_operand_in_range callee && list_all (λ arg. is_operand_in_range arg.value) args

abbrev pub is_phi_in_range : Phi → Bool
is_phi_in_range phi = list_all (λ entry. is_operand_in_range entry.0) phi.entries

abbrev pub is_term_in_range : Term → Bool
is_term_in_range (term.Ret ty value) = is_operand_in_range value
is_term_in_range (term.CondBr cond one other) = is_operand_in_range cond
is_term_in_range (term.Switch ty value default cases) = is_operand_in_range value
is_term_in_range _ = true

pub record BlockInRange (block : Block) : Type 0 where
  pub phis : IsTrue (list_all is_phi_in_range block.phis)
  pub insts : IsTrue (list_all is_inst_in_range block.insts)
  pub term : IsTrue (is_term_in_range block.term)

abbrev pub ItemInRange : Item → Type 0
ItemInRange (item.Var var) = AreBytes var.name × IsTrue (is_type_in_range var.ty) × IfSome var.init (λ init. IsTrue (is_constant_in_range init))
ItemInRange (item.Func func) = AreBytes func.name × IfSome func.body (λ body. All BlockInRange body.blocks)

-- Every module of a program that runs is in range.
pub record InRange (m : Module) : Type 0 where
  pub layout : IfSome m.layout AreBytes
  pub triple : IfSome m.triple AreBytes
  pub items : All ItemInRange m.items
