-- all are the same if those that are left are
use Rattle.std.proofs.Common.{◌≡◌, map, drop}
use Rattle.ir_syntax.specs.declared.body.Arg.{Arg}
use Rattle.ir_writer.specs.Instructions.{same_types}
use Rattle.ir_writer.proofs.calls.same_types.Given as goal

abbrev pub invariant-loop-place : goal.invariant-loop-place
invariant-loop-place l = same_types (drop l.place l.types) (map (λ (arg : Arg). arg.ty) (drop l.place l.args)) ≡ same_types l.types (map (λ (arg : Arg). arg.ty) l.args)
