-- What expands rows may be shared among threads, and pieces may go from one to another.
use denote.Param.Send.{IsSend, sendable}
use denote.Param.SendFields.{declared_send, as_row_send}
use Rattle.std.proofs.option.Option.TheSendSync as option
use Rattle.sqlite_items.proofs.items.Items.TheSendSync as items
use Rattle.demand_core.proofs.row.Row.TheSendSync as row
use Rattle.ir_syntax.proofs.Sent.{body-send}
use Rattle.specialise.specs.contracts.piece.Piece as Piece

pub both : {A B : Type 0} → A → B → A × B
both a b = (a, b)

pub piece-send : IsSend Piece.the_row
piece-send = declared_send Piece.the_type (search (both, tt, sendable, as_row_send, option.the_send, option.the_field_send, items.the_send, row.the_send, body-send) depth 30)
