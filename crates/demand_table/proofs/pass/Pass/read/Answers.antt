use Rattle.std.proofs.Common.{refl}
use Rattle.demand_table.proofs.Seeking.{slot_later, later_knows, learned_one}
use Rattle.demand_table.proofs.Words.{learned_trans, reads_some}
use Rattle.demand_table.proofs.pass.Pass.read.Goals as goal

pub words_at-words-requires-clause-known : goal.words_at-words-requires-clause-known
words_at-words-requires-clause-known c = slot_later _ _ _ (later_knows _ _ _ _ c.head.ensures.read) (c.is_known.ensures.0 c.if-not-is_known.false)

pub returns-clause-learned : goal.returns-clause-learned
returns-clause-learned c = learned_trans _ _ _ (learned_one _ _ _ _ c.head.ensures.read) c.words_at-words.ensures.learned

pub returns-clause-some : goal.returns-clause-some
returns-clause-some c = reads_some _ _ _ _ _ _ c.head.result _ c.of.ensures (c.is_known.ensures.0 c.if-not-is_known.false) c.head.ensures.short c.head.ensures.read refl c.words_at-words.ensures.learned c.words_at-words.ensures.read
