use Rattle.ir_locals.proofs.Found.{own_entry}
use Rattle.ir_locals.proofs.laws.locals_are_distinct.Goals as goal

pub returns : goal.returns
returns c = own_entry
