use Rattle.ir_paths.proofs.Answering.{body_result, all_within}
use Rattle.ir_paths.proofs.items.is_definite_body.Goals as goal

pub all_passed-requires : goal.all_passed-requires
all_passed-requires c = all_within c.as_slice-blocks.result.now c.in_ok-far.far.items c.in_ok-far.ensures

pub returns : goal.returns
returns c = body_result c.all_passed.result c.args.body.now c.as_slice-blocks.result.now c.in_ok-far.far.items c.as_slice-blocks.ensures c.in_ok-far.ensures c.all_passed.ensures
