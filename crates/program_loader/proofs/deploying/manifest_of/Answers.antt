use Rattle.program_loader.proofs.Deployments.{names_are_text}
use Rattle.program_loader.proofs.deploying.manifest_of.Goals as goal

pub returns-in-Ok-clause-names : goal.returns-in-Ok-clause-names
returns-in-Ok-clause-names c = names_are_text c.args.text.now c.in-Ok.manifest c.in-Ok.ensures.manifest
