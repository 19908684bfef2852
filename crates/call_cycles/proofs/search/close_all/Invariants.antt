use Rattle.std.proofs.Common.{◌≡◌, drop, length}
use Rattle.call_cycles.specs.declared.mark.Mark.TheVariants.{Closed}
use Rattle.call_cycles.specs.Searching.{put_all}
use Rattle.call_cycles.proofs.search.close_all.Given as goal

abbrev pub invariant-loop-node : goal.invariant-loop-node
invariant-loop-node l = (put_all (drop l.node-index l.nodes) (Closed l.on_cycle) l.marks ≡ put_all l.nodes (Closed l.on_cycle) l.fn.marks) × (length l.marks ≡ length l.fn.marks)
