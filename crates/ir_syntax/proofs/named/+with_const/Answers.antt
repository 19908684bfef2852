use Rattle.std.proofs.Common.{◌++◌, ap, sym, ◌∙◌}
use Rattle.ir_syntax.specs.Named.{names}
use Rattle.ir_syntax.proofs.NameLemmas.{adds_none, adds_parts, names-Int, names-Null, names-Addr, names-Undef, names-Poison, names-Zero, names-Text}
use Rattle.ir_syntax.proofs.named.+with_const.Goals as goal

pub returns-in-Int : goal.returns-in-Int
returns-in-Int t c = adds_none c.args.named c.args.constant.now (ap names c.in-Int.is ∙ names-Int _)

pub returns-in-Null : goal.returns-in-Null
returns-in-Null t c = adds_none c.args.named c.args.constant.now (ap names c.in-Null.is ∙ names-Null)

pub returns-in_ok-push-in-Addr : goal.returns-in_ok-push-in-Addr
returns-in_ok-push-in-Addr t c = c.in_ok-push-in-Addr.ensures.ok ∙ ap (λ more. c.args.named ++ more) (sym (ap names c.in-Addr.is ∙ names-Addr _ _))

pub returns-in-Undef : goal.returns-in-Undef
returns-in-Undef t c = adds_none c.args.named c.args.constant.now (ap names c.in-Undef.is ∙ names-Undef)

pub returns-in-Poison : goal.returns-in-Poison
returns-in-Poison t c = adds_none c.args.named c.args.constant.now (ap names c.in-Poison.is ∙ names-Poison)

pub returns-in-Zero : goal.returns-in-Zero
returns-in-Zero t c = adds_none c.args.named c.args.constant.now (ap names c.in-Zero.is ∙ names-Zero)

pub returns-in-Text : goal.returns-in-Text
returns-in-Text t c = adds_none c.args.named c.args.constant.now (ap names c.in-Text.is ∙ names-Text _)

pub returns-after-loop-part : goal.returns-after-loop-part
returns-after-loop-part t c =
    adds_parts c.loop-part.named c.args.named c.args.constant.now _ _ c.loop-part.part-index c.in-Many.is c.as_slice-part-items.ensures c.loop-part-test.false c.loop-part.invariant
