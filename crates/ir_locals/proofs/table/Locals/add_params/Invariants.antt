-- the names so far, and those that are left
use Rattle.std.proofs.Common.{◌≡◌, ◌++◌, true, drop}
use Rattle.ir_locals.specs.declared.local.Local.TheVariants.{Param}
use Rattle.ir_locals.specs.Locals.{numbered, are_locals}
use Rattle.ir_locals.proofs.table.Locals.add_params.Given as goal

abbrev pub invariant-loop-place : goal.invariant-loop-place
invariant-loop-place l = record {
  made : l.self ++ numbered Param l.place (drop l.place l.params) ≡ l.initial.self ++ numbered Param 0 l.params;
  well : are_locals l.self ≡ true;
}
