use Rattle.std.proofs.Common.{arith}
use Rattle.std.specs.Slots.{slots_items}
use Rattle.demand_table.proofs.Counting.{word_is, entry_is, near_is}
use Rattle.demand_table.proofs.closing.entry_of.Goals as goal

pub place_in-requires : goal.place_in-requires
place_in-requires c = record { near = near_is (slots_items c.args.words.now.words) c.args.places.now c.args.ticket c.word-origin.result c.requires.readable (word_is _ _ _ c.args.ticket 35 c.word-origin.ensures (omega arith)) }

pub returns : goal.returns
returns c = entry_is (slots_items c.args.words.now.words) c.args.places.now c.args.ticket c.word-origin.result c.word.result c.row_at.result _ c.place_in.result c.worker_of.result
    (omega arith) c.row_at.ensures (word_is _ _ _ c.args.ticket 35 c.word-origin.ensures (omega arith)) (word_is _ _ _ c.args.ticket 36 c.word.ensures (omega arith)) c.place_in.ensures c.worker_of.ensures
