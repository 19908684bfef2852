use Rattle.std.proofs.Common.{◌≡◌, ℕ, List, All}
use Rattle.std.specs.Prelude.{◌<◌, ◌+◌, ◌^◌, length}
use Rattle.ir_syntax.specs.declared.item.Module.{Module}
use Rattle.ir_syntax.specs.Programs.{ProgramData, AreSoundModules, IsSoundModule, Linked}
use Rattle.ir_syntax.specs.Refusals.{Deployment, Rule, IsRefused}
use Rattle.winnowed_form.specs.declared.winnowed.Winnowed.{Winnowed}
use Rattle.reach_prune.proofs.Again.{again}
use Rattle.reach_prune.proofs.Pieces.{needed_sound}
use Rattle.reach_prune.proofs.assembling.assemble.Goals as goal

pub assembled-requires : goal.assembled-requires
assembled-requires c = record { pieces = needed_sound c.args.p.now c.args.pieces c.requires.pieces }

pub returns-clause-sound : goal.returns-clause-sound
returns-clause-sound c =
    again c.args.p.now c.args.pieces (λ w. All IsSoundModule w.modules) c.assembled.result (λ w program has. c.what_is_winnowed_links_again.ensures.sound c.args.p.now c.args.pieces w program c.requires.pieces has)
    c.assembled.ensures.program c.assembled.ensures.winnowed

pub returns-clause-linkable : goal.returns-clause-linkable
returns-clause-linkable c =
    again c.args.p.now c.args.pieces (λ w. All (λ (m : Module). length m.items + length c.args.pieces < 2 ^ 32) c.args.p.now.modules → AreSoundModules w.modules) c.assembled.result
    (λ w program has. c.what_is_winnowed_links_again.ensures.linkable c.args.p.now c.args.pieces w program c.requires.pieces has) c.assembled.ensures.program c.assembled.ensures.winnowed

pub returns-clause-linked : goal.returns-clause-linked
returns-clause-linked c =
    again c.args.p.now c.args.pieces (λ w. (d : Deployment) → Linked c.args.p.now.modules d c.args.p.now → (q : ProgramData) × Linked w.modules d q) c.assembled.result
    (λ w program has d linked. c.what_is_winnowed_links_again.ensures.linked c.args.p.now c.args.pieces w d program c.requires.pieces has linked) c.assembled.ensures.program c.assembled.ensures.winnowed

pub returns-clause-not_refused : goal.returns-clause-not_refused
returns-clause-not_refused c =
    again c.args.p.now c.args.pieces (λ w. (d : Deployment) (rule : Rule) (name : List ℕ) → Linked c.args.p.now.modules d c.args.p.now → IsRefused w.modules d rule name → ⊥) c.assembled.result
    (λ w program has d rule name linked. c.what_is_winnowed_links_again.ensures.not_refused c.args.p.now c.args.pieces w d rule name program c.requires.pieces has linked) c.assembled.ensures.program c.assembled.ensures.winnowed
