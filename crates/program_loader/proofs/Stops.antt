-- What a step that only reads leaves of a shelf.
use Rattle.std.proofs.Common.{◌≡◌, ℕ, Option, Some, None}
use Rattle.occam_base.specs.declared.code.Code.{Code}
use Rattle.occam_base.specs.declared.code.Code.TheVariants as code
use Rattle.occam_base.specs.Files.{FileMap}
use Rattle.program_loader.specs.Refusing.{ReadsAlone}

none_some : (c : Code) → (let x : Option Code = None in x ≡ Some c) → ⊥
none_some c h = cc

-- a step that answered
pub quiet_reads : (f0 f1 : Option FileMap) (r0 r1 p0 p1 : ℕ) → ReadsAlone None f0 f1 r0 r1 p0 p1 → r1 ≡ r0
quiet_reads f0 f1 r0 r1 p0 p1 h = h.quiet (none_some code.ReadFault) (none_some code.OutOfMemory)
