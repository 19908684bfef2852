use Rattle.std.proofs.Common.{◌≡◌, take}
use Rattle.type_names.specs.Written.{named, names_of}
use Rattle.type_names.proofs.learn.type_places.Given as goal

abbrev pub invariant-loop-named : goal.invariant-loop-named
invariant-loop-named l = l.names ≡ names_of (named (take l.named-index l.types))
