-- the calls so far, and then those of the reached blocks that are left
use Rattle.std.proofs.Common.{◌≡◌, ◌++◌, drop, map}
use Rattle.std.specs.List.{filter_map, flat_map, enumerate_from}
use Rattle.fold_facts.specs.Assigned.{is_reached}
use Rattle.interface.specs.Masks.{chosen}
use Rattle.interface.specs.Summaries.{call_out, calls_out, known_of}
use Rattle.interface.proofs.summaries.calls_of.Given as goal

abbrev pub invariant-loop-place : goal.invariant-loop-place
invariant-loop-place l =
    l.calls
    ++ flat_map (λ block. filter_map (call_out l.p l.home (known_of (record { known = l.known }) l.a.facts)) block.insts)
    (chosen (map (λ entry. is_reached l.a entry.0) (enumerate_from l.place (drop l.place l.blocks))) (drop l.place l.blocks))
    ≡ calls_out l.p l.home l.known l.a l.blocks
