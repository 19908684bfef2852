use Rattle.std.proofs.Common.{◌∙◌}
use Rattle.program_loader.proofs.Stops.{quiet_reads}
use Rattle.program_loader.proofs.Walks.{name_text, loop_ended, loop_next, loop_all, loop_sound, loop_each, loop_small}
use Rattle.program_loader.proofs.walking.read_modules.Goals as goal

pub read_next-requires-clause-utf8 : goal.read_next-requires-clause-utf8
read_next-requires-clause-utf8 g c =
    name_text c.args.names.now c.loop-name.name-index c.name-item.result c.as_slice.result.now c.requires.names c.loop-name-test.true c.name-item.is c.as_slice.ensures

pub returns-in-Err-clause-gives : goal.returns-in-Err-clause-gives
returns-in-Err-clause-gives g c =
    loop_ended (g.S.Shelf.files c.args.shelf.now) (g.S.Shelf.files c.loop-name.shelf) c.args.names.now c.loop-name.name-index c.name-item.result c.as_slice.result.now c.loop-name.walk c.in-Err.refusal
    c.loop-name.invariant.files c.as_slice.ensures c.loop-name-test.true c.name-item.is c.loop-name.invariant.walked c.in-Err.ensures.gives

pub loop-name-preserved : goal.loop-name-preserved
loop-name-preserved g c = record {
  walked =
      loop_next (g.S.Shelf.files c.args.shelf.now) (g.S.Shelf.files c.loop-name.shelf) c.args.names.now c.loop-name.name-index c.name-item.result c.as_slice.result.now c.loop-name.walk c.in-Ok.next
      c.loop-name.invariant.files c.as_slice.ensures c.loop-name-test.true c.name-item.is c.loop-name.invariant.walked c.in-Ok.ensures.gives;
  files = c.in-Ok.ensures.alone.files ∙ c.loop-name.invariant.files;
  reads =
      quiet_reads (g.S.Shelf.files c.loop-name.shelf) (g.S.Shelf.files c.read_next.new.shelf) (g.S.Shelf.read_faults c.loop-name.shelf) (g.S.Shelf.read_faults c.read_next.new.shelf) (g.S.Shelf.put_faults c.loop-name.shelf)
      (g.S.Shelf.put_faults c.read_next.new.shelf) c.in-Ok.ensures.alone
      ∙ c.loop-name.invariant.reads;
  puts = c.in-Ok.ensures.alone.puts ∙ c.loop-name.invariant.puts;
}

pub returns-clause-gives : goal.returns-clause-gives
returns-clause-gives g c = loop_all (g.S.Shelf.files c.args.shelf.now) c.args.names.now c.loop-name.name-index c.loop-name.walk c.loop-name-test.false c.loop-name.invariant.walked

pub returns-clause-sound : goal.returns-clause-sound
returns-clause-sound g c =
    loop_sound c.what_is_spelled_is_formed.ensures c.items_are_within_the_text.ensures (g.S.Shelf.files c.args.shelf.now) c.args.names.now c.loop-name.name-index c.loop-name.walk c.requires.few c.loop-name-test.false
    c.loop-name.invariant.walked

pub returns-clause-each : goal.returns-clause-each
returns-clause-each g c = loop_each (g.S.Shelf.files c.args.shelf.now) c.args.names.now c.loop-name.name-index c.loop-name.walk c.loop-name-test.false c.loop-name.invariant.walked

pub returns-clause-small : goal.returns-clause-small
returns-clause-small g c =
    loop_small c.what_is_spelled_is_formed.ensures c.items_are_within_the_text.ensures (g.S.Shelf.files c.args.shelf.now) c.args.names.now c.loop-name.name-index c.loop-name.walk c.loop-name-test.false
    c.loop-name.invariant.walked
