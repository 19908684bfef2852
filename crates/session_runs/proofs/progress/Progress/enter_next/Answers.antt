use Rattle.std.proofs.Common.{◌≡◌, ◌∷◌}
use Rattle.std.proofs.lemmas.List.Elements.{All-rest}
use Rattle.ir_steps.specs.Reached.{IsRoot}
use Rattle.ir_meaning.specs.Models.{state_of}
use Rattle.session_runs.specs.declared.session.Root.{Root}
use Rattle.session_runs.proofs.Behind.{entered}
use Rattle.session_runs.proofs.Going.{no_call_runs}
use Rattle.session_runs.proofs.progress.Progress.enter_next.Goals as goal

pub enter-requires-clause-idle : goal.enter-requires-clause-idle
enter-requires-clause-idle c = no_call_runs c.args.p.now c.args.self.now.state c.requires.idle

pub returns-in_ok-enter-in-Some-clause-going : goal.returns-in_ok-enter-in-Some-clause-going
returns-in_ok-enter-in-Some-clause-going c =
    let first : c.args.self.now.roots.now ≡ c.in-Some.root.now ∷ c.in-Some.rest.now = c.in-Some.ensures.cases.0 in
    record {
      state = c.in_ok-enter-in-Some.ensures.still;
      roots = All-rest (λ (root : Root). IsRoot c.args.p.now root.func root.args) c.in-Some.root.now c.in-Some.rest.now c.args.self.now.roots.now first c.requires.roots;
      calls = λ h. entered c.args.p.now (state_of c.args.p.now c.args.self.now.state) c.in-Some.root.now.func c.as_slice.result.now (state_of c.args.p.now c.enter.new.self)
          c.in_ok-enter-in-Some.ensures.given;
    }
