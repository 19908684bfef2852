use Rattle.straight_leave.proofs.EntryLeft.{entry_left, names_free}
use Rattle.straight_leave.proofs.WhatIsLeft.{left_is_straight}
use Rattle.straight_leave.proofs.laws.what_is_left_is_straight.Goals as goal

pub returns-clause-straight : goal.returns-clause-straight
returns-clause-straight c = λ m start plan straight plain p unnamed few. left_is_straight m start plan straight p unnamed c.names_are_apart.ensures plain c.demands_are_ordered.ensures.equal few

pub returns-clause-names : goal.returns-clause-names
returns-clause-names c = λ m start plan free. names_free m.items start plan free

pub returns-clause-entry : goal.returns-clause-entry
returns-clause-entry c = λ m start plan p. entry_left m.items start plan p
