-- Programs and their parts may be shared: what a `&` to one holds says the same to every thread.
use denote.RattleType.{RattleType}
use denote.Param.Send.{IsSync, sendable, view_sync}
use denote.Param.SendFields.{variants_sync, declared_sync, as_row_sync}
use denote.Hole.FixSend.{Syncs, fix_sync}
use Rattle.std.proofs.option.Option.TheSendSync as option
use Rattle.sqlite_items.proofs.items.Items.TheSendSync as items
use Rattle.ir_types.proofs.bytes.Bytes.TheSendSync as bytes
use Rattle.ir_types.proofs.scalar.Scalar.TheSendSync as scalar
use Rattle.ir_types.proofs.scalar.Ext.TheSendSync as ext
use Rattle.ir_types.proofs.scalar.BinOp.TheSendSync as bin_op
use Rattle.ir_types.proofs.scalar.CastOp.TheSendSync as cast_op
use Rattle.ir_types.proofs.scalar.Pred.TheSendSync as pred
use Rattle.ir_types.proofs.scalar.Flags.TheSendSync as flags
use Rattle.ir_types.proofs.scalar.FnType.TheSendSync as fn_type
use Rattle.ir_types.proofs.scalar.Known.TheSendSync as known
use Rattle.ir_types.proofs.Shared.{ty-sync}
use Rattle.ir_syntax.proofs.item.Linkage.TheSendSync as linkage
use Rattle.ir_syntax.proofs.item.Param.TheSendSync as param
use Rattle.ir_syntax.proofs.symbol.Sym.TheSendSync as symbol
use Rattle.ir_syntax.proofs.symbol.Target.TheSendSync as target
use Rattle.ir_syntax.specs.declared.constant.Const.TheBlock as const_block
use Rattle.ir_syntax.specs.contracts.constant.Const as Const
use Rattle.ir_syntax.specs.contracts.constant.Const.TheKnot as const
use Rattle.ir_syntax.specs.contracts.constant.Operand as Operand
use Rattle.ir_syntax.specs.contracts.body.Arg as Arg
use Rattle.ir_syntax.specs.contracts.body.Phi as Phi
use Rattle.ir_syntax.specs.contracts.body.Inst as Inst
use Rattle.ir_syntax.specs.contracts.body.Term as Term
use Rattle.ir_syntax.specs.contracts.body.Block as Block
use Rattle.ir_syntax.specs.contracts.body.Body as Body
use Rattle.ir_syntax.specs.contracts.item.Var as Var
use Rattle.ir_syntax.specs.contracts.item.Func as Func
use Rattle.ir_syntax.specs.contracts.item.Item as Item
use Rattle.ir_syntax.specs.contracts.item.Module as Module
use Rattle.ir_syntax.specs.contracts.program.Program as Program
use Rattle.ir_syntax.specs.contracts.program.Program.TheInside as Inside

both : {A B : Type 0} → A → B → A × B
both a b = (a, b)

ruleset parts = (both, tt, sendable, as_row_sync, option.the_sync, option.the_field_sync, items.the_sync, bytes.the_sync)

ruleset words = (scalar.the_sync, ext.the_sync, bin_op.the_sync, cast_op.the_sync, pred.the_sync, flags.the_sync, fn_type.the_sync, linkage.the_sync, param.the_sync)

-- ---- constants

const-layer : (h : RattleType) → IsSync h → IsSync (const.layer-Const h)
const-layer h s = variants_sync (const.type-Const h) (search parts depth 30)

const-steps : (i : const.the_members) → Syncs const.ring i
const-steps const_block.member-Const = record { sync = λ h s. record { shared = (const-layer (h const.member-Const) (s const.member-Const)).shared } }

const-hole : IsSync const.hole-Const
const-hole = record { shared = (fix_sync const.ring const-steps const.member-Const).shared }

pub const-sync : IsSync Const.the_row
const-sync = variants_sync Const.enum (search (parts, const-hole) depth 30)

-- ---- bodies

pub operand-sync : IsSync Operand.the_row
operand-sync = variants_sync Operand.enum (search (parts, const-sync) depth 30)

arg-sync : IsSync Arg.the_row
arg-sync = declared_sync Arg.the_type (search (parts, words, operand-sync) depth 30)

pub phi-sync : IsSync Phi.the_row
phi-sync = declared_sync Phi.the_type (search (parts, words, operand-sync) depth 30)

pub inst-sync : IsSync Inst.the_row
inst-sync = variants_sync Inst.enum (search (parts, words, ty-sync, operand-sync, arg-sync) depth 40)

pub term-sync : IsSync Term.the_row
term-sync = variants_sync Term.enum (search (parts, words, operand-sync) depth 40)

pub block-sync : IsSync Block.the_row
block-sync = declared_sync Block.the_type (search (parts, phi-sync, inst-sync, term-sync) depth 30)

pub body-sync : IsSync Body.the_row
body-sync = declared_sync Body.the_type (search (parts, block-sync) depth 30)

-- ---- items

pub var-sync : IsSync Var.the_row
var-sync = declared_sync Var.the_type (search (parts, words, ty-sync, const-sync) depth 30)

pub func-sync : IsSync Func.the_row
func-sync = declared_sync Func.the_type (search (parts, words, body-sync) depth 30)

pub item-sync : IsSync Item.the_row
item-sync = variants_sync Item.enum (search (parts, var-sync, func-sync) depth 30)

pub module-sync : IsSync Module.the_row
module-sync = declared_sync Module.the_type (search (parts, item-sync) depth 30)

inside-sync : IsSync Inside.the_row
inside-sync = declared_sync Inside.the_type (search (parts, module-sync, symbol.the_sync, target.the_sync, known.the_sync) depth 30)

pub program-sync : IsSync Program.the_row
program-sync = view_sync Inside.the_row _ _ _ _ inside-sync
