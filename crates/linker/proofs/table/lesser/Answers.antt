use Rattle.std.proofs.Common.{refl, sym}
use Rattle.std.proofs.lemmas.Bool.{false≢true}
use Rattle.linker.proofs.Tables.{least_skips, least_stays, least_moves}
use Rattle.linker.proofs.table.lesser.Goals as goal

pub returns-then-not-breaks : goal.returns-then-not-breaks
returns-then-not-breaks c = λ slots h. least_skips c.args.modules.now c.args.rule slots c.args.slot.now c.args.least (sym c.if-not-breaks.ensures) h

pub returns-then-is_below : goal.returns-then-is_below
returns-then-is_below c = λ slots h. least_moves c.args.modules.now c.args.rule slots c.args.slot.now c.args.least (sym c.if-not-breaks.ensures) (c.if-is_below.ensures.0 refl) h

pub returns-else-is_below : goal.returns-else-is_below
returns-else-is_below c = λ slots h. least_stays c.args.modules.now c.args.rule slots c.args.slot.now c.args.least (λ b. false≢true (c.if-is_below.ensures.1 b)) h
