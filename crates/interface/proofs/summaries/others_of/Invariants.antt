-- the symbols so far, and then those of the reached blocks that are left
use Rattle.std.proofs.Common.{◌≡◌, ◌++◌, drop, map}
use Rattle.std.specs.List.{filter_map, flat_map, enumerate_from}
use Rattle.fold_facts.specs.Assigned.{is_reached}
use Rattle.interface.specs.Masks.{chosen}
use Rattle.interface.specs.Names.{block_others}
use Rattle.interface.specs.Summaries.{canonical_of, named_out}
use Rattle.interface.proofs.summaries.others_of.Given as goal

abbrev pub invariant-loop-place : goal.invariant-loop-place
invariant-loop-place l =
    l.symbols
    ++ flat_map (λ block. filter_map (canonical_of l.p l.home) (block_others block))
    (chosen (map (λ entry. is_reached l.a entry.0) (enumerate_from l.place (drop l.place l.blocks))) (drop l.place l.blocks))
    ≡ named_out l.p l.home l.a l.blocks
