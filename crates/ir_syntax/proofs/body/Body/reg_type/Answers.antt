use Rattle.std.proofs.Common.{None, sym, ◌∙◌, ap, drop, ◌+◌}
use Rattle.std.specs.List.{slice_get, flat_map}
use Rattle.ir_syntax.specs.Results.{block_results, results}
use Rattle.ir_types.proofs.ListSteps.{slice_get-append_first, slice_get-append_rest}
use Rattle.ir_syntax.proofs.ResultLemmas.{results_at, there_within, none_left}
use Rattle.ir_syntax.proofs.body.Body.reg_type.Goals as goal

pub returns-in-Ok-clause-value : goal.returns-in-Ok-clause-value
returns-in-Ok-clause-value c =
    let here = results_at c.as_slice-block-items.result.now c.loop-block.block-index c.block-item.result c.loop-block-test.true c.block-item.is in
    sym (slice_get-append_first _ (flat_map block_results (drop (c.loop-block.block-index + 1) c.as_slice-block-items.result.now)) c.loop-block.left c.in-Ok.ty c.in-Ok.ensures) ∙ ap (λ xs. slice_get xs c.loop-block.left) (sym here) ∙ c.loop-block.invariant

pub returns-in-Ok-clause-there : goal.returns-in-Ok-clause-there
returns-in-Ok-clause-there c = there_within _ (results c.args.self.now) c.args.k (returns-in-Ok-clause-value c)

pub loop-block-preserved : goal.loop-block-preserved
loop-block-preserved c =
    let here = results_at c.as_slice-block-items.result.now c.loop-block.block-index c.block-item.result c.loop-block-test.true c.block-item.is in
    sym (slice_get-append_rest (block_results c.block-item.result) (flat_map block_results (drop (c.loop-block.block-index + 1) c.as_slice-block-items.result.now)) c.in-Err.rest c.loop-block.left c.in-Err.ensures) ∙ ap (λ xs. slice_get xs c.loop-block.left) (sym here) ∙ c.loop-block.invariant

pub returns-clause-there : goal.returns-clause-there
returns-clause-there c = there_within None (results c.args.self.now) c.args.k (none_left c.as_slice-block-items.result.now c.loop-block.block-index c.loop-block.left c.loop-block-test.false ∙ c.loop-block.invariant)
