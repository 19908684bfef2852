use Rattle.ir_paths.proofs.Answering.{first_of}
use Rattle.ir_paths.proofs.items.check_paths.Goals as goal

pub returns-clause-not_definite : goal.returns-clause-not_definite
returns-clause-not_definite c = λ item e. first_of c.args.m.now.items c.as_slice.result.now c.as_slice.ensures c.requires.formed.has_items _ item (c.check_items.ensures.not_definite item) e
