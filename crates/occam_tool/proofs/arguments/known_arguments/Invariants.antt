use Rattle.std.proofs.Common.{◌≡◌, All, map, take}
use Rattle.occam_tool.specs.Manifests.{IsWord, known_arg}
use Rattle.occam_tool.proofs.arguments.known_arguments.Given as goal

abbrev pub invariant-loop-arg : goal.invariant-loop-arg
invariant-loop-arg l = record {
  words : All IsWord (take l.arg-index l.args);
  known_so_far : l.known ≡ map known_arg (take l.arg-index l.args);
}
