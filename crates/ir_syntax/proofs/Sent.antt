-- Programs and their parts may go to another thread.
use denote.RattleType.{RattleType}
use denote.Param.Send.{IsSend, sendable, view_send}
use denote.Param.SendFields.{variants_send, declared_send, as_row_send}
use denote.Hole.FixSend.{Sends, fix_send}
use Rattle.std.proofs.option.Option.TheSendSync as option
use Rattle.sqlite_items.proofs.items.Items.TheSendSync as items
use Rattle.ir_types.proofs.bytes.Bytes.TheSendSync as bytes
use Rattle.ir_types.proofs.scalar.Scalar.TheSendSync as scalar
use Rattle.ir_types.proofs.scalar.Ext.TheSendSync as ext
use Rattle.ir_types.proofs.scalar.BinOp.TheSendSync as bin_op
use Rattle.ir_types.proofs.scalar.CastOp.TheSendSync as cast_op
use Rattle.ir_types.proofs.scalar.Pred.TheSendSync as pred
use Rattle.ir_types.proofs.scalar.Flags.TheSendSync as flags
use Rattle.ir_types.proofs.scalar.FnType.TheSendSync as fn_type
use Rattle.ir_types.proofs.scalar.Known.TheSendSync as known
use Rattle.ir_types.proofs.Sent.{ty-send}
use Rattle.ir_syntax.proofs.item.Linkage.TheSendSync as linkage
use Rattle.ir_syntax.proofs.item.Param.TheSendSync as param
use Rattle.ir_syntax.proofs.symbol.Sym.TheSendSync as symbol
use Rattle.ir_syntax.proofs.symbol.Target.TheSendSync as target
use Rattle.ir_syntax.specs.declared.constant.Const.TheBlock as const_block
use Rattle.ir_syntax.specs.contracts.constant.Const as Const
use Rattle.ir_syntax.specs.contracts.constant.Const.TheKnot as const
use Rattle.ir_syntax.specs.contracts.constant.Operand as Operand
use Rattle.ir_syntax.specs.contracts.body.Arg as Arg
use Rattle.ir_syntax.specs.contracts.body.Phi as Phi
use Rattle.ir_syntax.specs.contracts.body.Inst as Inst
use Rattle.ir_syntax.specs.contracts.body.Term as Term
use Rattle.ir_syntax.specs.contracts.body.Block as Block
use Rattle.ir_syntax.specs.contracts.body.Body as Body
use Rattle.ir_syntax.specs.contracts.item.Var as Var
use Rattle.ir_syntax.specs.contracts.item.Func as Func
use Rattle.ir_syntax.specs.contracts.item.Item as Item
use Rattle.ir_syntax.specs.contracts.item.Module as Module
use Rattle.ir_syntax.specs.contracts.program.Program as Program
use Rattle.ir_syntax.specs.contracts.program.Program.TheInside as Inside

both : {A B : Type 0} → A → B → A × B
both a b = (a, b)

ruleset parts = (both, tt, sendable, as_row_send, option.the_send, option.the_field_send, items.the_send, bytes.the_send)

ruleset words = (scalar.the_send, ext.the_send, bin_op.the_send, cast_op.the_send, pred.the_send, flags.the_send, fn_type.the_send, linkage.the_send, param.the_send)

-- ---- constants

const-layer : (h : RattleType) → IsSend h → IsSend (const.layer-Const h)
const-layer h s = variants_send (const.type-Const h) (search parts depth 30)

const-steps : (i : const.the_members) → Sends const.ring i
const-steps const_block.member-Const = record { send = λ h s. let sent = const-layer (h const.member-Const) (s const.member-Const) in record { owned = sent.owned; leaving = sent.leaving } }

const-hole : IsSend const.hole-Const
const-hole = let sent = fix_send const.ring const-steps const.member-Const in record { owned = sent.owned; leaving = sent.leaving }

pub const-send : IsSend Const.the_row
const-send = variants_send Const.enum (search (parts, const-hole) depth 30)

-- ---- bodies

pub operand-send : IsSend Operand.the_row
operand-send = variants_send Operand.enum (search (parts, const-send) depth 30)

arg-send : IsSend Arg.the_row
arg-send = declared_send Arg.the_type (search (parts, words, operand-send) depth 30)

pub phi-send : IsSend Phi.the_row
phi-send = declared_send Phi.the_type (search (parts, words, operand-send) depth 30)

pub inst-send : IsSend Inst.the_row
inst-send = variants_send Inst.enum (search (parts, words, ty-send, operand-send, arg-send) depth 40)

pub term-send : IsSend Term.the_row
term-send = variants_send Term.enum (search (parts, words, operand-send) depth 40)

pub block-send : IsSend Block.the_row
block-send = declared_send Block.the_type (search (parts, phi-send, inst-send, term-send) depth 30)

pub body-send : IsSend Body.the_row
body-send = declared_send Body.the_type (search (parts, block-send) depth 30)

-- ---- items

pub var-send : IsSend Var.the_row
var-send = declared_send Var.the_type (search (parts, words, ty-send, const-send) depth 30)

pub func-send : IsSend Func.the_row
func-send = declared_send Func.the_type (search (parts, words, body-send) depth 30)

pub item-send : IsSend Item.the_row
item-send = variants_send Item.enum (search (parts, var-send, func-send) depth 30)

pub module-send : IsSend Module.the_row
module-send = declared_send Module.the_type (search (parts, item-send) depth 30)

inside-send : IsSend Inside.the_row
inside-send = declared_send Inside.the_type (search (parts, module-send, symbol.the_send, target.the_send, known.the_send) depth 30)

pub program-send : IsSend Program.the_row
program-send = view_send Inside.the_row _ _ _ _ inside-send
