use Rattle.std.proofs.Common.{arith}
use Rattle.std.proofs.lemmas.Bool.{false≢true}
use Rattle.call_cycles.proofs.graph.Graph.has_edge.Goals as goal

pub returns : goal.returns
returns c = (
  λ t. absurd (false≢true t),
  λ e. absurd (c.loop-place.invariant e.place e.from (omega (arith, e.upto, c.until-place-end.ensures, c.loop-place-test.false)) e.to),
)
