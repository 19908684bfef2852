use Rattle.std.proofs.Common.{Ok, Err}
use Rattle.manifest.specs.declared.fault.ManifestFault.TheVariants.{BadManifest}
use Rattle.manifest.proofs.AnswerLaws.{IsAnswer-result, IsOrWantsMemory-answer, manifest_at, bad_at}
use Rattle.manifest.proofs.text.read_manifest.Goals as goal

pub returns-in-Ok-clause-manifest : goal.returns-in-Ok-clause-manifest
returns-in-Ok-clause-manifest c = manifest_at c.args.bytes.now _ (IsAnswer-result c.args.bytes.now _ c.in-Ok.ensures.ok _ c.manifest_of.ensures)

pub returns-in-Ok-clause-bad_manifest : goal.returns-in-Ok-clause-bad_manifest
returns-in-Ok-clause-bad_manifest c = bad_at c.args.bytes.now _ (IsAnswer-result c.args.bytes.now _ c.in-Ok.ensures.ok _ c.manifest_of.ensures)

pub returns-in-Ok-clause-answers_manifest : goal.returns-in-Ok-clause-answers_manifest
returns-in-Ok-clause-answers_manifest c = λ m h. IsOrWantsMemory-answer c.args.bytes.now _ c.in-Ok.ensures.ok _ c.manifest_of.ensures (Ok m) h

pub returns-in-Ok-clause-answers_bad_manifest : goal.returns-in-Ok-clause-answers_bad_manifest
returns-in-Ok-clause-answers_bad_manifest c = λ key h. IsOrWantsMemory-answer c.args.bytes.now _ c.in-Ok.ensures.ok _ c.manifest_of.ensures (Err (BadManifest key)) h
