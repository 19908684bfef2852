use Rattle.ir_paths.proofs.Answering.{item_result}
use Rattle.ir_paths.proofs.items.is_definite_item.Goals as goal

pub returns-in-Some : goal.returns-in-Some
returns-in-Some c = item_result c.is_definite_body.result c.args.item.now c.in-Func.func c.in-Some.body c.in-Func.is c.in-Some.is c.is_definite_body.ensures
