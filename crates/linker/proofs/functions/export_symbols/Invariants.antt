use Rattle.std.proofs.Common.{take}
use Rattle.std.specs.List.{AllZip}
use Rattle.ir_syntax.specs.Programs.{IsNamedFunction}
use Rattle.linker.proofs.functions.export_symbols.Given as goal

abbrev pub invariant-loop-name : goal.invariant-loop-name
invariant-loop-name l = AllZip (IsNamedFunction l.modules) (take l.name-index l.exports) l.symbols
