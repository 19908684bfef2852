use Rattle.std.proofs.Common.{arith, ◌∙◌, length-set}
use Rattle.std.specs.Slots.{slots_items}
use Rattle.table_rule.proofs.Lists.{at_get}
use Rattle.demand_table.proofs.Counting.{write_one}
use Rattle.demand_table.proofs.closing.write_entries.Goals as goal

pub entry_of-requires-clause-low : goal.entry_of-requires-clause-low
entry_of-requires-clause-low c = let r = c.requires.readable c.loop-i.i _ (at_get c.args.tickets.now c.loop-i.i c.loop-i-test.true) in (r.0, r.1)

pub entry_of-requires-clause-readable : goal.entry_of-requires-clause-readable
entry_of-requires-clause-readable c = (c.requires.readable c.loop-i.i _ (at_get c.args.tickets.now c.loop-i.i c.loop-i-test.true)).2

pub loop-i-preserved : goal.loop-i-preserved
loop-i-preserved c =
    let inv = c.loop-i.invariant in
    (length-set c.loop-i.entries.items c.loop-i.i c.entry_of.result ∙ inv.0, write_one c.loop-i.i _ (slots_items c.args.words.now.words) c.args.places.now c.args.tickets.now c.loop-i.entries.items c.entry_of.result inv.1 (at_get c.args.tickets.now c.loop-i.i c.loop-i-test.true) c.entry_of.ensures)

pub returns-clause-written : goal.returns-clause-written
returns-clause-written c i x entry lt =
    let le = c.loop-i-test.false in
    c.loop-i.invariant.1 i x entry (omega (arith, le, lt))
