use Rattle.demand_table.proofs.Ending.{readable_all, all_sound, all_reported}
use Rattle.demand_table.proofs.closing.close.Goals as goal

pub write_entries-requires-clause-readable : goal.write_entries-requires-clause-readable
write_entries-requires-clause-readable c =
    let end = c.close_with-words.ensures.values.2 in
    readable_all c.table.inside.board.shared.key _ _ _ end.1.0 end.2 _ _ end.1.1 _ _ _ _ c.pass.view_is c.table.view_is c.requires.met _ _ _ c.pass.invariant.1 _ _ _ _ _ c.as_slice.ensures.value c.as_slice-2.ensures.value c.as_slice-3.ensures.value c.in-Ok.ensures.0 _ c.close_with-words.ensures.counts.0 c.table.invariant.0

pub returns-clause-sound : goal.returns-clause-sound
returns-clause-sound c =
    let end = c.close_with-words.ensures.values.2 in
    all_sound c.table.inside.board.shared.key _ _ _ end.1.0 end.2 _ _ end.1.1 _ _ _ _ c.pass.view_is c.table.view_is c.requires.met _ _ _ c.pass.invariant.1 _ _ _ _ _ c.as_slice.ensures.value c.as_slice-2.ensures.value c.as_slice-3.ensures.value c.in-Ok.ensures.0 _ _ c.write_entries.ensures.same c.write_entries.ensures.written c.from_vec.ensures

pub returns-clause-reports : goal.returns-clause-reports
returns-clause-reports c =
    let end = c.close_with-words.ensures.values.2 in
    all_reported c.table.inside.board.shared.key _ _ _ end.1.0 end.2 _ _ end.1.1 _ _ _ _ c.pass.view_is c.table.view_is c.requires.met _ _ _ c.pass.invariant.1 _ _ _ _ _ c.as_slice.ensures.value c.as_slice-2.ensures.value c.as_slice-3.ensures.value c.in-Ok.ensures.0 _ _ c.write_entries.ensures.same c.write_entries.ensures.written c.from_vec.ensures
