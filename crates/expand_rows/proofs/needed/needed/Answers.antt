use denote.Param.Send.{sendable}
use denote.Param.SendFields.{as_row_sync}
use Rattle.sqlite_items.proofs.items.Items.TheSendSync as items
use Rattle.ir_syntax.proofs.Shared.{program-sync}
use Rattle.expand_rows.proofs.Crossing.{both, piece-send}
use Rattle.expand_rows.proofs.needed.needed.Goals as goal

pub least-requires-send-E-Piece : goal.least-requires-send-E-Piece
least-requires-send-E-Piece c κs = search (sendable, piece-send) depth 20

pub least-requires-sync-E : goal.least-requires-sync-E
least-requires-sync-E c κs = search (both, as_row_sync, sendable, items.the_sync, program-sync) depth 30
