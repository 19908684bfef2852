use Rattle.std.proofs.Common.{◌≡◌, take}
use Rattle.std.specs.List.{All}
use Rattle.ir_syntax.specs.FunctionTypes.{function_type}
use Rattle.ir_syntax.specs.Symbols.{item_at}
use Rattle.linker.proofs.group.have_type.Given as goal

abbrev pub invariant-loop-symbol : goal.invariant-loop-symbol
invariant-loop-symbol l = All (λ symbol. function_type (item_at l.modules symbol) ≡ l.ty) (take l.symbol-index l.symbols)
