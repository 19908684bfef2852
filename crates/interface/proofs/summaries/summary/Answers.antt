use Rattle.std.proofs.Common.{◌<◌, ◌^◌, All, length, sym, subst}
use Rattle.fold_facts.specs.OfFunction.{results_in}
use Rattle.interface.specs.Names.{HasFewArgs}
use Rattle.interface.proofs.Folded.{few_results_at, few_args_at}
use Rattle.interface.proofs.summaries.summary.Goals as goal

pub facts_of-requires-clause-few : goal.facts_of-requires-clause-few
facts_of-requires-clause-few c =
    subst (λ blocks. length (results_in blocks) < 2 ^ 64) (sym c.blocks_at-blocks.ensures.blocks)
    (few_results_at c.args.p.now c.args.func c.args.known.now c.args.facts.now c.blocks_at-blocks.ensures.program c.requires.folded)

pub calls_of-requires-clause-few : goal.calls_of-requires-clause-few
calls_of-requires-clause-few c =
    subst (λ blocks. All (λ block. All HasFewArgs block.insts) blocks) (sym c.blocks_at-blocks.ensures.blocks)
    (few_args_at c.args.p.now c.args.func c.args.known.now c.args.facts.now c.blocks_at-blocks.ensures.program c.requires.folded)
