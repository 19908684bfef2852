use Rattle.std.proofs.Common.{take, IsTrue}
use Rattle.std.specs.List.{AllZip}
use Rattle.ir_types.specs.Scalars.{is_number_of}
use Rattle.step_rows.proofs.arguments.arguments_of.Given as goal

-- a number for each parameter so far
abbrev pub invariant-loop-param : goal.invariant-loop-param
invariant-loop-param l = AllZip (λ param n. IsTrue (is_number_of param.ty n)) (take l.param-index l.params) l.args.items
