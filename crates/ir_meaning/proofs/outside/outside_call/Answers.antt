use Rattle.ir_meaning.proofs.Named.{shown_are_known}
use Rattle.ir_meaning.proofs.outside.outside_call.Goals as goal

pub give-requires-clause-known : goal.give-requires-clause-known
give-requires-clause-known c = shown_are_known c.args.p.now c.args.memory.now c.args.args.now c.in_ok-shown.shown c.in_ok-shown.ensures
