use Rattle.straight_meaning.proofs.Running.{goes_on, never_undefined, has_next}
use Rattle.straight_meaning.proofs.laws.run_goes_on.Goals as goal

pub returns : goal.returns
returns c = record { run = goes_on; phase = never_undefined; next = has_next }
