use Rattle.std.proofs.Common.{arith, refl, ◌∙◌}
use Rattle.demand_table.proofs.Seeking.{slot_later, later_learned, later_knows, learned_one, learned_more, told_knows, same_none, same_more, knows_row}
use Rattle.demand_table.proofs.Words.{other_word}
use Rattle.demand_table.proofs.pass.Pass.has_words.Goals as goal

pub loop-i-init : goal.loop-i-init
loop-i-init c = (c.head.ensures.table, learned_one _ _ _ _ c.head.ensures.read, same_none c.head.new.self.seen c.args.place c.args.words.now, (c.head.result, told_knows c.args.self.now.seen _ _ c.head.result c.head.ensures.read, c.if-head-words.false))

pub word-requires-clause-known : goal.word-requires-clause-known
word-requires-clause-known c = slot_later _ _ _ (later_learned _ _ c.loop-i.invariant.1) c.requires.known

pub returns-then-word-words-clause-learned : goal.returns-then-word-words-clause-learned
returns-then-word-words-clause-learned c = learned_more _ _ _ _ _ c.loop-i.invariant.1 c.word.ensures.read

pub returns-then-word-words-clause-told : goal.returns-then-word-words-clause-told
returns-then-word-words-clause-told c = other_word _ _ c.args.place c.loop-i.i c.word.result _ c.args.words.now c.loop-i-test.true c.word.ensures.read c.if-word-words.true refl

pub loop-i-preserved : goal.loop-i-preserved
loop-i-preserved c =
    let h = c.loop-i.invariant.3 in (
      c.word.ensures.table ∙ c.loop-i.invariant.0,
      learned_more _ _ _ _ _ c.loop-i.invariant.1 c.word.ensures.read,
      same_more _ _ c.loop-i.i c.args.place c.word.result _ c.args.words.now c.loop-i.invariant.2 c.word.ensures.read c.if-word-words.false refl,
      (h.0, (later_knows _ _ _ _ c.word.ensures.read).known _ _ h.1, h.2),
    )

pub returns-clause-told : goal.returns-clause-told
returns-clause-told c =
    let h = c.loop-i.invariant.3 in
    let le = c.loop-i-test.false in
    knows_row _ c.args.place h.0 c.args.words.now h.1 h.2 (λ j lt. c.loop-i.invariant.2 j (omega (arith, lt, le)))
