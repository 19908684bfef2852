use Rattle.demand_play.proofs.Sets.{among_kept, among_none}
use Rattle.demand_play.proofs.table.Table.is_needed_by.Goals as goal

pub returns-in-Some : goal.returns-in-Some
returns-in-Some c = among_kept (λ rows. rows.keys) c.args.self.now.needed c.args.ticket c.args.row.now c.in-Some.rows.now c.contains.result c.in-Some.ensures.value c.contains.ensures

pub returns-in-None : goal.returns-in-None
returns-in-None c = among_none (λ rows. rows.keys) c.args.self.now.needed c.args.ticket c.args.row.now c.in-None.ensures.value
