use Rattle.session_runs.proofs.GoingOn.{Laws, a_run_goes_on}
use Rattle.session_runs.proofs.laws.run_goes_on.Goals as goal

pub returns : goal.returns
returns c p s n linked roots =
    let laws : Laws = record { starts = c.never_stuck.ensures.starts; enters = c.never_stuck.ensures.enters; steps = c.never_stuck.ensures.steps } in
    a_run_goes_on laws p s n linked roots
