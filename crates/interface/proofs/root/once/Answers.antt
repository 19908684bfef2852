use Rattle.std.proofs.Common.{◌∙◌, [], ◌∷◌, ◌++◌, ◌+◌, cond, ap, drop, drop-cons, add-one}
use Rattle.interface.specs.Roots.{once}
use Rattle.interface.specs.Mirrors.Seen.{has}
use Rattle.interface.proofs.Once.{once_next, once_first}
use Rattle.interface.proofs.root.once.Goals as goal

pub loop-symbol-init : goal.loop-symbol-init
loop-symbol-init c = once_first (has c.new-seen.result) (has c.add_once.new.seen) c.add_once.new.symbols c.args.first c.args.more.now c.new-seen.ensures
    (c.in_ok-add_once.ensures.symbols ∙ ap (λ l. l ++ cond (has c.new-seen.result c.args.first) [] (c.args.first ∷ [])) c.new-symbols.ensures) c.in_ok-add_once.ensures.seen

pub loop-symbol-preserved : goal.loop-symbol-preserved
loop-symbol-preserved c =
    once_next (has c.loop-symbol.seen) (has c.add_once-in-loop-symbol.new.seen) (once (c.args.first ∷ c.args.more.now)) c.loop-symbol.symbols c.add_once-in-loop-symbol.new.symbols (drop c.loop-symbol.symbol-index c.args.more.now)
    (drop (c.loop-symbol.symbol-index + 1) c.args.more.now) _ c.loop-symbol.invariant (rw add-one (drop-cons c.args.more.now c.loop-symbol.symbol-index _ c.loop-symbol-test.true)) c.in_ok-add_once-2.ensures.symbols c.in_ok-add_once-2.ensures.seen
