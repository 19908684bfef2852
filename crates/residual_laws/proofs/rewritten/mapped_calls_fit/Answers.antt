use Rattle.residual_laws.proofs.Calls.{all_mapped, some_mapped}
use Rattle.residual_laws.proofs.rewritten.mapped_calls_fit.Goals as goal

pub returns-clause-whole : goal.returns-clause-whole
returns-clause-whole c = all_mapped

pub returns-clause-chosen : goal.returns-clause-chosen
returns-clause-chosen c = some_mapped
