-- A type may be shared: what a `&` to it holds says the same to every thread.
use denote.RattleType.{RattleType}
use denote.Param.Send.{IsSync, sendable}
use denote.Param.SendFields.{variants_sync, as_row_sync}
use denote.Hole.FixSend.{Syncs, fix_sync}
use Rattle.sqlite_items.proofs.items.Items.TheSendSync as items
use Rattle.sqlite_items.proofs.boxed.Boxed.TheSendSync as boxed
use Rattle.ir_types.proofs.scalar.Scalar.TheSendSync as scalar
use Rattle.ir_types.specs.declared.shape.Ty.TheBlock as block
use Rattle.ir_types.specs.contracts.shape.Ty as Ty
use Rattle.ir_types.specs.contracts.shape.Ty.TheKnot as ty

both : {A B : Type 0} → A → B → A × B
both a b = (a, b)

ruleset parts = (both, tt, sendable, as_row_sync, items.the_sync, boxed.the_sync, scalar.the_sync)

layer : (h h' : RattleType) → IsSync h → IsSync h' → IsSync (ty.layer-Ty h h')
layer h h' s s' = variants_sync (ty.type-Ty h h') (search parts depth 30)

steps : (i : ty.the_members) → Syncs ty.ring i
steps block.member-Ty = record { sync = λ h s. record { shared = (layer (h ty.member-Ty) (h ty.member-Ty) (s ty.member-Ty) (s ty.member-Ty)).shared } }

hole : IsSync ty.hole-Ty
hole = record { shared = (fix_sync ty.ring steps ty.member-Ty).shared }

pub ty-sync : IsSync Ty.the_row
ty-sync = variants_sync Ty.enum (search (parts, hole) depth 30)
