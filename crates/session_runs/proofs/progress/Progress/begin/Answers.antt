use Rattle.std.proofs.Common.{None, ap}
use Rattle.ir_steps.specs.States.{StateData}
use Rattle.ir_meaning.specs.Models.{state_of}
use Rattle.session_runs.specs.Mirrors.Progressing.{standing}
use Rattle.session_runs.proofs.Going.{is_behind, no_call, at_call, begins_alone, calls_still, call_runs, runs}
use Rattle.session_runs.proofs.progress.Progress.begin.Goals as goal

pub step-requires-clause-running : goal.step-requires-clause-running
step-requires-clause-running c = call_runs c.args.p.now c.args.self.now.state (c.requires.going.calls (runs c.args.self.now.phase c.requires.running))

pub complete-requires-clause-behind : goal.complete-requires-clause-behind
complete-requires-clause-behind c =
    is_behind c.args.p.now (state_of c.args.p.now c.args.self.now.state) None c.in_ok-stepped.stepped (state_of c.args.p.now c.step.new.s) c.in_ok-stepped.ensures.answer
    (no_call c.in_ok-stepped.stepped c.in_default.not-Wants)

pub returns-in-Wants-clause-begun : goal.returns-in-Wants-clause-begun
returns-in-Wants-clause-begun c replies =
    ap (λ (s : StateData). record (standing c.args.p.now c.args.self.now replies) { state = s })
    (at_call c.args.p.now (state_of c.args.p.now c.args.self.now.state) c.in_ok-stepped.stepped c.in-Wants.call (state_of c.args.p.now c.step.new.s) c.in-Wants.is c.in_ok-stepped.ensures.answer)

pub returns-in-Wants-clause-going : goal.returns-in-Wants-clause-going
returns-in-Wants-clause-going c = record {
  state = c.in_ok-stepped.ensures.still;
  roots = c.requires.going.roots;
  calls = λ h. calls_still (state_of c.args.p.now c.args.self.now.state) (state_of c.args.p.now c.step.new.s)
      (at_call c.args.p.now (state_of c.args.p.now c.args.self.now.state) c.in_ok-stepped.stepped c.in-Wants.call (state_of c.args.p.now c.step.new.s) c.in-Wants.is c.in_ok-stepped.ensures.answer)
      (c.requires.going.calls h);
}

pub returns-in_ok-complete-in_default-clause-begun : goal.returns-in_ok-complete-in_default-clause-begun
returns-in_ok-complete-in_default-clause-begun c =
    begins_alone c.args.p.now c.args.self.now c.complete.new.self c.in_ok-stepped.stepped c.step.new.s c.in_ok-stepped.ensures.answer
    (no_call c.in_ok-stepped.stepped c.in_default.not-Wants) c.in_ok-complete-in_default.ensures.completes
