use Rattle.std.proofs.Common.{◌<◌, ◌^◌, length, sym, subst}
use Rattle.std.specs.Prelude.{All}
use Rattle.fold_facts.specs.OfFunction.{results_in}
use Rattle.fold_facts.specs.Raising.{SaysItsTypes}
use Rattle.fold_facts.proofs.Suiting.{all_suit, few_results}
use Rattle.fold_facts.proofs.solving.solve_plain.Goals as goal

pub settle-requires-clause-few : goal.settle-requires-clause-few
settle-requires-clause-few c = subst (λ bs. length (results_in bs) < 2 ^ 64) (sym c.blocks_of-blocks.ensures) (few_results c.args.f.now c.requires.sound)

pub settle-requires-clause-typed : goal.settle-requires-clause-typed
settle-requires-clause-typed c =
    subst (λ bs. All (SaysItsTypes (record { known = c.args.known.now }) (results_in bs)) bs) (sym c.blocks_of-blocks.ensures) (all_suit c.args.f.now c.args.known.now c.requires.known c.requires.sound)
