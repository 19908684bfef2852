use Rattle.ir_steps.proofs.WorkedSteps as worked
use Rattle.ir_steps.proofs.laws.programs_worked_by_hand.Goals as goal

pub returns-clause-factorial : goal.returns-clause-factorial
returns-clause-factorial c = worked.factorial

pub returns-clause-not_sooner : goal.returns-clause-not_sooner
returns-clause-not_sooner c = worked.not_sooner

pub returns-clause-poison : goal.returns-clause-poison
returns-clause-poison c = worked.poison

pub returns-clause-not_wrapped : goal.returns-clause-not_wrapped
returns-clause-not_wrapped c = worked.not_wrapped

pub returns-clause-undefined : goal.returns-clause-undefined
returns-clause-undefined c = worked.divided

pub returns-clause-not_taken : goal.returns-clause-not_taken
returns-clause-not_taken c = worked.not_taken

pub returns-clause-swapped : goal.returns-clause-swapped
returns-clause-swapped c = worked.swapped

pub returns-clause-not_one_by_one : goal.returns-clause-not_one_by_one
returns-clause-not_one_by_one c = worked.not_one_by_one

pub returns-clause-ended : goal.returns-clause-ended
returns-clause-ended c = worked.ended

pub returns-clause-freed : goal.returns-clause-freed
returns-clause-freed c = worked.freed

pub returns-clause-refused : goal.returns-clause-refused
returns-clause-refused c = worked.refused

pub returns-clause-replied : goal.returns-clause-replied
returns-clause-replied c = worked.replied

pub returns-clause-bad_reply : goal.returns-clause-bad_reply
returns-clause-bad_reply c = worked.bad_reply
