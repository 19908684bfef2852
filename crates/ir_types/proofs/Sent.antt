-- A type may go to another thread.
use denote.RattleType.{RattleType}
use denote.Param.Send.{IsSend, sendable}
use denote.Param.SendFields.{variants_send, as_row_send}
use denote.Hole.FixSend.{Sends, fix_send}
use Rattle.sqlite_items.proofs.items.Items.TheSendSync as items
use Rattle.sqlite_items.proofs.boxed.Boxed.TheSendSync as boxed
use Rattle.ir_types.proofs.scalar.Scalar.TheSendSync as scalar
use Rattle.ir_types.specs.declared.shape.Ty.TheBlock as block
use Rattle.ir_types.specs.contracts.shape.Ty as Ty
use Rattle.ir_types.specs.contracts.shape.Ty.TheKnot as ty

both : {A B : Type 0} → A → B → A × B
both a b = (a, b)

ruleset parts = (both, tt, sendable, as_row_send, items.the_send, boxed.the_send, scalar.the_send)

layer : (h h' : RattleType) → IsSend h → IsSend h' → IsSend (ty.layer-Ty h h')
layer h h' s s' = variants_send (ty.type-Ty h h') (search parts depth 30)

steps : (i : ty.the_members) → Sends ty.ring i
steps block.member-Ty = record { send = λ h s. let sent = layer (h ty.member-Ty) (h ty.member-Ty) (s ty.member-Ty) (s ty.member-Ty) in record { owned = sent.owned; leaving = sent.leaving } }

hole : IsSend ty.hole-Ty
hole = let sent = fix_send ty.ring steps ty.member-Ty in record { owned = sent.owned; leaving = sent.leaving }

pub ty-send : IsSend Ty.the_row
ty-send = variants_send Ty.enum (search (parts, hole) depth 30)
