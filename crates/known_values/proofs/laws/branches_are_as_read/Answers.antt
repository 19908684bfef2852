use Rattle.known_values.proofs.Behind.{result_of}
use Rattle.known_values.proofs.Stepping.{blocks_as}
use Rattle.known_values.proofs.laws.branches_are_as_read.Goals as goal

pub returns-clause-results : goal.returns-clause-results
returns-clause-results c = result_of

pub returns-clause-blocks : goal.returns-clause-blocks
returns-clause-blocks c = blocks_as
