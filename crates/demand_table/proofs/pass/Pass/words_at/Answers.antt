use Rattle.std.proofs.Common.{arith, ◌∙◌}
use Rattle.demand_table.proofs.Seeking.{slot_later, later_learned, learned_more}
use Rattle.demand_table.proofs.Words.{read_more}
use Rattle.demand_table.proofs.pass.Pass.words_at.Goals as goal

pub word-requires-clause-known : goal.word-requires-clause-known
word-requires-clause-known c = slot_later _ _ _ (later_learned _ _ c.loop-i.invariant.1) c.requires.known

pub loop-i-preserved : goal.loop-i-preserved
loop-i-preserved c =
    let lt = c.loop-i-test.true in
    let few = c.requires.few in
    (c.word.ensures.table ∙ c.loop-i.invariant.0, learned_more _ _ _ _ _ c.loop-i.invariant.1 c.word.ensures.read, read_more _ _ c.loop-i.i c.args.place c.word.result c.loop-i.words c.loop-i.invariant.2 (omega (arith, lt, few)) c.word.ensures.read)
