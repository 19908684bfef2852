use Rattle.ir_meaning.proofs.Begun.{count_is_there, begun_is}
use Rattle.ir_meaning.proofs.calls.begin.Goals as goal

pub number_at-count-requires : goal.number_at-count-requires
number_at-count-requires c = count_is_there c.args.p.now c.args.table.now c.args.symbol c.body_of-body.result.now c.len-behind.result c.requires.table c.body_of-body.ensures c.len-behind.ensures

pub returns : goal.returns
returns c =
    begun_is c.args.p.now c.args.table.now c.args.symbol c.body_of-body.result.now c.block_in-first.result.now c.args.args.items c.in_ok-results.results.items c.len-behind.result c.number_at-count.result c.len-next.result c.new-allocas.result.items
    c.requires.table c.body_of-body.ensures c.block_in-first.ensures c.len-behind.ensures c.number_at-count.ensures c.in_ok-results.ensures c.len-next.ensures c.new-allocas.ensures.items
