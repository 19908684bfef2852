use Rattle.demand_play.proofs.Holding.{is_new, answers_twice, answers_root, answers_child, answers_unclaimed}
use Rattle.demand_play.proofs.table.Table.may_insert.Goals as goal

pub returns-then-contains : goal.returns-then-contains
returns-then-contains c needs before held =
    answers_twice needs before _ _ _ held c.args.roots.now.keys c.args.worker c.args.row.now c.args.parent c.contains.result c.contains.ensures c.if-contains.true

pub returns-in-None : goal.returns-in-None
returns-in-None c needs before held =
    answers_root needs before _ _ _ held c.args.roots.now.keys c.args.worker c.args.row.now c.args.parent c.contains-in-None.result
    (is_new needs before _ _ _ held c.args.row.now c.contains.result c.contains.ensures c.if-contains.false) c.in-None.is c.contains-in-None.ensures

pub returns-then-is_claimed : goal.returns-then-is_claimed
returns-then-is_claimed c needs before held =
    answers_child needs before _ _ _ held c.args.roots.now.keys c.args.worker c.args.row.now c.args.parent c.in-Some.parent c.is_claimed.result c.is_needed_by.result
    (is_new needs before _ _ _ held c.args.row.now c.contains.result c.contains.ensures c.if-contains.false) c.in-Some.is c.is_claimed.ensures c.if-is_claimed.true c.is_needed_by.ensures

pub returns-else-is_claimed : goal.returns-else-is_claimed
returns-else-is_claimed c needs before held =
    answers_unclaimed needs before _ _ _ held c.args.roots.now.keys c.args.worker c.args.row.now c.args.parent c.in-Some.parent c.is_claimed.result
    (is_new needs before _ _ _ held c.args.row.now c.contains.result c.contains.ensures c.if-contains.false) c.in-Some.is c.is_claimed.ensures c.if-is_claimed.false
