use Rattle.std.proofs.Common.{◌∙◌, sym, arith}
use Rattle.interface.proofs.Chosen.{listed_at, listed_past, rank_past}
use Rattle.interface.proofs.mask.Mask.rank.Goals as goal

pub returns-in-Some : goal.returns-in-Some
returns-in-Some c = listed_at c.self.inside.ranks c.self.inside.flags c.args.self.now c.args.k c.in-Some.rank.now c.self.invariant c.self.view_is c.in-Some.ensures.value

pub returns-in-None : goal.returns-in-None
returns-in-None c =
    c.count.ensures ∙ sym (rank_past c.args.self.now c.args.k (omega (arith, listed_past c.self.inside.ranks c.self.inside.flags c.args.self.now c.args.k c.self.invariant c.self.view_is c.in-None.ensures.value)))
