use Rattle.std.proofs.Common.{◌≡◌, drop}
use Rattle.std.specs.List.{list_any}
use Rattle.linker.specs.Mirrors.Items.{other_definition}
use Rattle.linker.proofs.group.any_other_definition.Given as goal

abbrev pub invariant-loop-symbol : goal.invariant-loop-symbol
invariant-loop-symbol l = list_any (λ symbol. other_definition l.modules l.definition symbol) (drop l.symbol-index l.symbols) ≡ list_any (λ symbol. other_definition l.modules l.definition symbol) l.symbols
