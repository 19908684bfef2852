use Rattle.std.proofs.Common.{◌≡◌, drop}
use Rattle.block_memory.specs.Starts.{modules_start}
use Rattle.block_memory.specs.Mirrors.Laying.{behind}
use Rattle.block_memory.proofs.memory.Memory.start.Given as goal

abbrev pub invariant-loop-home : goal.invariant-loop-home
invariant-loop-home l = behind l.vars.items (modules_start l.p l.home (drop l.home l.p.modules)) ≡ modules_start l.p 0 l.p.modules
