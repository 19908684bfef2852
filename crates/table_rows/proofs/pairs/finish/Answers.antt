use Rattle.table_rows.proofs.Meeting.{met_two}
use Rattle.table_rows.proofs.pairs.finish.Goals as goal

pub close-requires-clause-met : goal.close-requires-clause-met
close-requires-clause-met c = met_two c.args.first.seen c.args.second.seen _ _ c.meet-all.ensures.both c.requires.first.1 c.requires.second.1 c.requires.two
