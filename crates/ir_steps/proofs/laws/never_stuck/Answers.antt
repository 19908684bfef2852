use Rattle.ir_steps.proofs.Stepping as law
use Rattle.ir_steps.proofs.laws.never_stuck.Goals as goal

pub returns-clause-starts : goal.returns-clause-starts
returns-clause-starts c = law.program_starts

pub returns-clause-enters : goal.returns-clause-enters
returns-clause-enters c = law.root_is_entered

pub returns-clause-steps : goal.returns-clause-steps
returns-clause-steps c = law.never_stuck
