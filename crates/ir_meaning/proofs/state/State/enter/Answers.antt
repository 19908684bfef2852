use Rattle.std.proofs.Common.{◌≡◌, ◌∙◌, inr, List, [], ◌∷◌, map, Option, Some, ap, sym}
use Rattle.std.specs.Prelude.{reverse}
use Rattle.block_memory.specs.Answers.{Gives, and_then}
use Rattle.block_memory.specs.Blocks.{MemoryData}
use Rattle.ir_steps.specs.States.{Frame}
use Rattle.ir_steps.specs.Results.{state}
use Rattle.ir_steps.specs.Steps.{enter}
use Rattle.ir_meaning.specs.Models.{FrameData, StateModel, frame_of, state_of}
use Rattle.ir_meaning.specs.Mirrors.Stacks.{kept}
use Rattle.ir_meaning.proofs.Answering.{reached_of, root_is_meant, enter_leads}
use Rattle.ir_meaning.proofs.state.State.enter.Goals as goal

pub root-requires-clause-meant : goal.root-requires-clause-meant
root-requires-clause-meant c =
    let p = c.args.p.now in
    let s = c.args.self.now in
    let fine = ap (λ (m : StateModel). m.failed) (sym c.self.view_is) ∙ c.if-self.false in
    root_is_meant p s c.args.func c.args.args.now c.is_linked.ensures (reached_of p s c.requires.started fine) c.requires.root

pub returns-in-Ok-clause-still : goal.returns-in-Ok-clause-still
returns-in-Ok-clause-still c =
    let p = c.args.p.now in
    let s = c.args.self.now in
    let fine = ap (λ (m : StateModel). m.failed) (sym c.self.view_is) ∙ c.if-self.false in
    let stack = c.in-Ok.stack in
    let new : StateModel = record { stack = kept (Some stack); memory = c.self.inside.memory; firsts = c.self.inside.table; failed = c.self.inside.failed } in
    let of : enter p (state_of p s) c.args.func c.args.args.now ≡ Gives (state_of p new) =
    ap (and_then (λ (f : Frame). Gives (state (f ∷ []) s.memory))) c.in-Ok.ensures.given
    ∙ ap (λ (l : List FrameData). Gives (state (frame_of p stack.top ∷ map (frame_of p) (reverse l)) s.memory)) (sym c.in-Ok.ensures.below)
    ∙ ap (λ (m : MemoryData). Gives (state (frame_of p stack.top ∷ map (frame_of p) (reverse stack.below.items)) m)) (ap (λ (m : StateModel). m.memory) (sym c.self.view_is)) in
    inr (enter_leads p s new c.args.func c.args.args.now (reached_of p s c.requires.started fine) c.requires.idle c.requires.root (ap (λ (m : StateModel). m.firsts) c.self.view_is) of)
