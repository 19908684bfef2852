-- the flags so far, and then those of the facts that are left
use Rattle.std.proofs.Common.{◌≡◌, ◌++◌, drop, take, length, map}
use Rattle.std.specs.Prelude.{◌&&◌}
use Rattle.specialise.specs.Leaving.{is_open}
use Rattle.specialise.proofs.masks.add_flags.Given as goal

abbrev pub invariant-loop-fact : goal.invariant-loop-fact
invariant-loop-fact l =
    l.flags ++ map (λ fact. l.is_reached && is_open fact) (drop l.fact-index l.fact-items) ≡ l.fn.flags ++ map (λ fact. l.is_reached && is_open fact) (take l.count (drop (length l.fn.flags) l.facts))
