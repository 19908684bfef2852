use Rattle.straight_meaning.proofs.Agreeing.{agree, bound}
use Rattle.straight_meaning.proofs.winnowing.meaning_is_kept.Goals as goal

pub returns : goal.returns
returns c = record { agree = agree; bound = bound }
