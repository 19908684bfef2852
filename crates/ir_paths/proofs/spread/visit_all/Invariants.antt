use Rattle.std.proofs.Common.{◌≡◌, drop}
use Rattle.ir_paths.specs.Spreading.{visit_all}
use Rattle.ir_paths.proofs.spread.visit_all.Given as goal

abbrev pub invariant-loop-place : goal.invariant-loop-place
invariant-loop-place l =
    visit_all l.blocks l.own (drop l.place-index l.order) (l.words, l.flags, l.next.items) ≡ visit_all l.blocks l.own l.order (l.fn.words, l.fn.flags, l.fn.next.items)
