use Rattle.std.proofs.Common.{subst}
use Rattle.program_loader.specs.Steps.{ManifestGives}
use Rattle.program_loader.proofs.Deployments.{deployment_stopped, deployment_read}
use Rattle.program_loader.proofs.deploying.read_deployment.Goals as goal

pub returns-in-Ok-clause-gives : goal.returns-in-Ok-clause-gives
returns-in-Ok-clause-gives g c =
    deployment_read (g.S.Shelf.files c.args.shelf.now) c.args.name.now c.in-Ok.text c.manifest_of.result c.in-Ok.ensures.gives
    (subst (λ t. ManifestGives t c.manifest_of.result) c.as_slice.ensures c.manifest_of.ensures.gives)

pub returns-in-Err-clause-gives : goal.returns-in-Err-clause-gives
returns-in-Err-clause-gives g c = deployment_stopped (g.S.Shelf.files c.args.shelf.now) c.args.name.now c.in-Err.refusal c.in-Err.ensures.gives
