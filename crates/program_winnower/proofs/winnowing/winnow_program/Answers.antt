use Rattle.program_winnower.proofs.Shaping.{clash_found}
use Rattle.program_winnower.proofs.winnowing.winnow_program.Goals as goal

pub returns-in-Err-assemble-clause-refused : goal.returns-in-Err-assemble-clause-refused
returns-in-Err-assemble-clause-refused c = clash_found c.args.p.now c.in-Ok.pieces c.in-Err-assemble.fault c.of_shape.result c.of_shape.ensures c.in-Ok.ensures.needed c.in-Err-assemble.ensures.clash
