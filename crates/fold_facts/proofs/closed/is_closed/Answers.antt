use Rattle.std.proofs.Common.{◌<◌, ◌^◌, ◌↔◌, length, sym, subst}
use Rattle.std.specs.Prelude.{IsTrue}
use Rattle.fold_facts.specs.Closed.{IsClosed}
use Rattle.fold_facts.specs.OfFunction.{results_in}
use Rattle.fold_facts.proofs.Suiting.{few_results}
use Rattle.fold_facts.proofs.closed.is_closed.Goals as goal

pub are_blocks_closed-requires-clause-few : goal.are_blocks_closed-requires-clause-few
are_blocks_closed-requires-clause-few c = subst (λ bs. length (results_in bs) < 2 ^ 64) (sym c.blocks_of.ensures) (few_results c.args.f.now c.requires.sound)

pub returns : goal.returns
returns c =
    subst (λ bs. IsTrue c.are_blocks_closed.result ↔ IsClosed (record { known = c.args.known.now }) bs c.args.a.now) c.blocks_of.ensures c.are_blocks_closed.ensures
