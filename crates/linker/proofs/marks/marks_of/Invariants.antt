use Rattle.std.proofs.Common.{◌≡◌, take}
use Rattle.linker.specs.Mirrors.Marks.{marks_of}
use Rattle.linker.proofs.marks.marks_of.Given as goal

abbrev pub invariant-loop-module : goal.invariant-loop-module
invariant-loop-module l = l.marks ≡ marks_of (take l.module-index l.modules)
