use Rattle.straight_fold.proofs.Roots.{root-place, root-function, root-copied, root-alone}
use Rattle.straight_fold.proofs.laws.root_suits.Goals as goal

pub returns-clause-place : goal.returns-clause-place
returns-clause-place c = root-place

pub returns-clause-function : goal.returns-clause-function
returns-clause-function c = root-function

pub returns-clause-copied : goal.returns-clause-copied
returns-clause-copied c = root-copied

pub returns-clause-alone : goal.returns-clause-alone
returns-clause-alone c = root-alone
