use Rattle.std.proofs.Common.{◌∙◌, length, ap, refl}
use Rattle.ir_syntax.specs.Refusals.{IsArgumentOf}
use Rattle.linker.proofs.Steps.{zip_long}
use Rattle.linker.proofs.shapes.entry_arguments.Goals as goal

pub arguments_of-requires-clause-long : goal.arguments_of-requires-clause-long
arguments_of-requires-clause-long c = ap length c.as_slice.ensures ∙ zip_long IsArgumentOf c.args.func.now.params c.args.args.now (c.if-not-fits_entry.ensures.0 refl).args_fit
