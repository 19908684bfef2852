use Rattle.std.proofs.Common.{◌∙◌, length, ap, arith}
use Rattle.interface.specs.Masks.{rank}
use Rattle.interface.proofs.Chosen.{listed_at, listed_past}
use Rattle.interface.proofs.mask.Mask.count.Goals as goal

pub returns : goal.returns
returns c =
    listed_at c.self.inside.ranks c.self.inside.flags c.args.self.now c.len.result c.in-Some.count.now c.self.invariant c.self.view_is c.in-Some.ensures.value ∙ ap (rank c.args.self.now) (c.len.ensures ∙ ap length c.self.view_is)

pub unreachable-requires : goal.unreachable-requires
unreachable-requires c =
    omega (arith, listed_past c.self.inside.ranks c.self.inside.flags c.args.self.now c.len.result c.self.invariant c.self.view_is c.in-None.ensures.value, c.len.ensures, ap length c.self.view_is)
