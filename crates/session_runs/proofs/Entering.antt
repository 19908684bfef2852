-- The next root is entered.
use Rattle.std.proofs.Common.{◌≡◌, ◌∙◌, List, [], ◌∷◌, Some, option_map, option_and_then, refl, sym, ap}
use Rattle.ir_syntax.specs.Programs.{ProgramData}
use Rattle.block_memory.specs.Answers.{Gives}
use Rattle.ir_steps.specs.declared.session.Reply.{Reply}
use Rattle.ir_steps.specs.States.{StateData}
use Rattle.ir_steps.specs.Steps.{start, enter}
use Rattle.session_runs.specs.declared.session.Root.{Root}
use Rattle.session_runs.specs.declared.session.Session.{Session}
use Rattle.session_runs.specs.declared.session.Phase.TheVariants as phase
use Rattle.session_runs.specs.declared.progress.Progress.{Progress}
use Rattle.session_runs.specs.Runs.{Moment, given, enters, starts, moment}
use Rattle.session_runs.specs.Worlds.{session}
use Rattle.session_runs.specs.Mirrors.Progressing.{standing}

pub enters_none : (p : ProgramData) (x : Moment) (roots : List Root) → roots ≡ [] → enters p x roots ≡ Some (record x { roots = roots; phase = phase.Finished })
enters_none p x [] e = refl
enters_none p x (root ∷ roots) e = cc

enters_first : (p : ProgramData) (x : Moment) (root : Root) (rest : List Root) (t : StateData) → enter p x.state root.func root.args ≡ Gives t
    → enters p x (root ∷ rest) ≡ Some (record x { state = t; roots = rest })
enters_first p x root rest t e = ap (λ a. option_map (λ (s : StateData). record x { state = s; roots = rest }) (given a)) e

pub enters_one : (p : ProgramData) (x : Moment) (roots : List Root) (root : Root) (rest : List Root) (t : StateData) → roots ≡ root ∷ rest → enter p x.state root.func root.args ≡ Gives t
    → enters p x roots ≡ Some (record x { state = t; roots = rest })
enters_one p x roots root rest t e h = ap (enters p x) e ∙ enters_first p x root rest t h

pub starts_so : (p : ProgramData) (s : Session) (t : StateData) → start p ≡ Gives t
    → starts p s ≡ enters p (record { state = t; roots = s.roots; replies = s.replies; trace = []; phase = phase.Running; steps = 0 }) s.roots
starts_so p s t e = ap (λ a. option_and_then (λ (st : StateData). enters p (record { state = st; roots = s.roots; replies = s.replies; trace = []; phase = phase.Running; steps = 0 }) s.roots) (given a)) e

-- the moment at the start of a session
pub starts_with : (p : ProgramData) (s : Session) (roots : List Root) (replies : List Reply) (q : Progress) → roots ≡ s.roots → replies ≡ s.replies
    → ((rs : List Reply) → starts p (session roots rs) ≡ Some (standing p q rs)) → moment p s 0 ≡ Some (standing p q replies)
starts_with p s roots replies q same replies_are h =
    ap (λ r. starts p (session r s.replies)) (sym same) ∙ h s.replies ∙ ap (λ (rs : List Reply). Some (standing p q rs)) (sym replies_are)
