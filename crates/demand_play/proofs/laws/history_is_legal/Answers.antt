use Rattle.demand_play.specs.History.{in_order}
use Rattle.demand_play.proofs.Ordering.{once, tickets}
use Rattle.demand_play.proofs.Histories.{core_told, history_legal}
use Rattle.demand_play.proofs.laws.history_is_legal.Goals as goal

pub returns-clause-once : goal.returns-clause-once
returns-clause-once c = once

pub returns-clause-tickets : goal.returns-clause-tickets
returns-clause-tickets c = tickets

pub returns-clause-core : goal.returns-clause-core
returns-clause-core c entries = core_told (in_order entries)

pub returns-clause-legal : goal.returns-clause-legal
returns-clause-legal c = history_legal
