-- what is known of the arguments so far, with what is known of those that are left
use Rattle.std.proofs.Common.{◌≡◌, ◌++◌, take, drop, map, length}
use Rattle.interface.specs.Summaries.{known_of}
use Rattle.interface.proofs.arguments.known_of_args.Given as goal

abbrev pub invariant-loop-k : goal.invariant-loop-k
invariant-loop-k l =
    (take l.k l.items ++ map (known_of (record { known = l.known }) l.facts) (map (λ arg. arg.value) (drop l.k l.args)) ≡ map (known_of (record { known = l.known }) l.facts) (map (λ arg. arg.value) l.args))
    × (length l.items ≡ 32)
