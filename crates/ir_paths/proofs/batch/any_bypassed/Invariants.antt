use Rattle.std.proofs.Common.{◌≡◌, ◌==◌, not, bit_and, slice_index, drop}
use Rattle.std.specs.List.{list_any}
use Rattle.ir_paths.proofs.batch.any_bypassed.Given as goal

abbrev pub invariant-loop-asked : goal.invariant-loop-asked
invariant-loop-asked l =
    list_any (λ u. not (bit_and (slice_index l.words u.place) (slice_index l.own u.definer) == 0)) (drop l.asked-index l.far)
    ≡ list_any (λ u. not (bit_and (slice_index l.words u.place) (slice_index l.own u.definer) == 0)) l.far
