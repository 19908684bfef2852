-- What the code keeps of how a body is left.
use Rattle.specialise.specs.Leaving.{Leaving}
use Rattle.specialise.specs.declared.left.Left.{Left}
use Rattle.specialise.specs.Mirrors.Edges.{has_edge}

abbrev pub shown : Left → Leaving
shown w = record {
  setting = record { known = w.known.now };
  facts = w.facts;
  reached = w.reached;
  kept = w.kept;
  edge = has_edge w.edges;
}
