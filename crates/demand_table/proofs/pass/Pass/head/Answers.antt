use Rattle.std.proofs.Common.{arith}
use Rattle.table_rule.specs.Layout.{word_of}
use Rattle.demand_table.proofs.Tied.{ties_read}
use Rattle.demand_table.proofs.Shown.{again, reads_row}
use Rattle.demand_table.proofs.pass.Pass.head.Goals as goal

pub read_head-requires-clause-row : goal.read_head-requires-clause-row
read_head-requires-clause-row c = reads_row _ _ _ _ _ _ c.self.view_is c.table.view_is c.requires.belongs c.table.invariant.0 _ _ _ c.self.invariant.1 c.args.place c.requires.known

pub invariant_of-self : goal.invariant_of-self
invariant_of-self c =
    let s = c.read_head.ensures.same in
    again _ _ _ _ _ _ _ _ s.0 s.1 c.self.invariant.0 (ties_read _ _ _ _ _ c.self.invariant.1 _ (word_of c.args.place 0) c.read_head.result c.read_head.ensures.found.0 (omega arith))
