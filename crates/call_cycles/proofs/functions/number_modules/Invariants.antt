use Rattle.std.proofs.Common.{◌≡◌, ◌*◌, ◌≤◌, ◌++◌, drop}
use Rattle.call_cycles.specs.Mirrors.Numbering.{module_numbers}
use Rattle.call_cycles.proofs.functions.number_modules.Given as goal

abbrev pub invariant-loop-module : goal.invariant-loop-module
invariant-loop-module l = (l.numbers ++ module_numbers l.next (drop l.module-index l.modules) ≡ module_numbers 0 l.modules) × (l.next ≤ 4294967296 * l.module-index)
