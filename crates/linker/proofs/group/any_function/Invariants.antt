use Rattle.std.proofs.Common.{◌≡◌, drop}
use Rattle.std.specs.List.{list_any}
use Rattle.linker.specs.Mirrors.Items.{function_at}
use Rattle.linker.proofs.group.any_function.Given as goal

abbrev pub invariant-loop-symbol : goal.invariant-loop-symbol
invariant-loop-symbol l = list_any (λ symbol. function_at l.modules symbol) (drop l.symbol-index l.symbols) ≡ list_any (λ symbol. function_at l.modules symbol) l.symbols
