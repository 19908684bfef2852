use Rattle.std.proofs.Common.{◌≡◌, ◌+◌, length, drop, sum_by}
use Rattle.occam_tool.specs.Counts.{function_count, variable_count, instruction_count, module_count}
use Rattle.occam_tool.proofs.tally.counts_of.Given as goal

abbrev pub invariant-loop-module : goal.invariant-loop-module
invariant-loop-module l = record {
  all : l.counts.modules ≡ length l.modules;
  functions : l.counts.functions + sum_by (module_count function_count) (drop l.module-index l.modules) ≡ sum_by (module_count function_count) l.modules;
  variables : l.counts.globals + sum_by (module_count variable_count) (drop l.module-index l.modules) ≡ sum_by (module_count variable_count) l.modules;
  instructions : l.counts.instructions + sum_by (module_count instruction_count) (drop l.module-index l.modules) ≡ sum_by (module_count instruction_count) l.modules;
}
