use Rattle.std.proofs.Common.{◌≡◌, drop}
use Rattle.std.specs.List.{list_any}
use Rattle.linker.specs.Mirrors.Marks.{mark_at}
use Rattle.linker.proofs.group.any_mark.Given as goal

abbrev pub invariant-loop-symbol : goal.invariant-loop-symbol
invariant-loop-symbol l = list_any (λ symbol. mark_at l.marks symbol) (drop l.symbol-index l.symbols) ≡ list_any (λ symbol. mark_at l.marks symbol) l.symbols
