use Rattle.ir_writer.proofs.StraightFormed.{straight_is_formed, straight_is_in_range}
use Rattle.ir_writer.proofs.laws.straight_modules_are_written.Goals as goal

pub returns-clause-formed : goal.returns-clause-formed
returns-clause-formed c = straight_is_formed

pub returns-clause-in_range : goal.returns-clause-in_range
returns-clause-in_range c = straight_is_in_range
