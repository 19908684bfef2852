use Rattle.std.proofs.Common.{◌≡◌, drop}
use Rattle.std.specs.List.{find}
use Rattle.linker.specs.Mirrors.Items.{defined_at}
use Rattle.linker.proofs.group.first_definition.Given as goal

abbrev pub invariant-loop-symbol : goal.invariant-loop-symbol
invariant-loop-symbol l = find (λ symbol. defined_at l.modules symbol) (drop l.symbol-index l.symbols) ≡ find (λ symbol. defined_at l.modules symbol) l.symbols
