use Rattle.std.proofs.Common.{◌∙◌, ap}
use Rattle.linker.specs.Mirrors.Rows.{row_of, canonical_in}
use Rattle.linker.proofs.Entries.{rows_step, rows_whole}
use Rattle.linker.proofs.table.Table.canonical.Goals as goal

pub loop-place-preserved : goal.loop-place-preserved
loop-place-preserved c = rows_step (canonical_in c.args.self.now.names c.args.self.now.slots) c.args.modules.now c.loop-place.place c.index-modules-place.result c.loop-place.rows c.push.new.self c.in_ok-canonical_row.field-0 c.loop-place-test.true c.index-modules-place.is c.loop-place.invariant
    (c.in_ok-canonical_row.ensures ∙ ap (row_of (canonical_in c.args.self.now.names c.args.self.now.slots) c.loop-place.place 0) c.as_slice.ensures) c.in_ok-push.ensures.ok

pub returns : goal.returns
returns c = rows_whole (canonical_in c.args.self.now.names c.args.self.now.slots) c.args.modules.now c.loop-place.place c.loop-place.rows c.loop-place-test.false c.loop-place.invariant
