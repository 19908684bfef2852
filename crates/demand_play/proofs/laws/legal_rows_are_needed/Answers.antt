use Rattle.demand_play.proofs.NeededRows.{rows_distinct, rows_needed}
use Rattle.demand_play.proofs.laws.legal_rows_are_needed.Goals as goal

pub returns-clause-distinct : goal.returns-clause-distinct
returns-clause-distinct c = rows_distinct

pub returns-clause-needed : goal.returns-clause-needed
returns-clause-needed c = rows_needed
