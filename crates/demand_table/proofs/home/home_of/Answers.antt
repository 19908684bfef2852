use Rattle.demand_table.proofs.Homes.{home_is}
use Rattle.demand_table.proofs.home.home_of.Goals as goal

pub returns-clause-home : goal.returns-clause-home
returns-clause-home c = home_is c.args.words.now c.loop-word.mixed c.loop-word.word-index c.loop-word-test.false c.loop-word.invariant
