use Rattle.std.proofs.Common.{subst, sym, IfOk, IsTrue, ◌↔◌}
use Rattle.ir_syntax.specs.declared.item.Item.{Item}
use Rattle.ir_syntax.specs.Typed.{TypedItem}
use Rattle.ir_check.proofs.items.is_typed_item.Goals as goal

pub returns-in-Func : goal.returns-in-Func
returns-in-Func c = subst (λ (item : Item). IfOk c.is_typed_func.result (λ typed. IsTrue typed ↔ TypedItem c.args.items.now item)) (sym c.in-Func.is) c.is_typed_func.ensures
