-- Symbols that were seen.
use Rattle.std.specs.Prelude.{nat_eq, Bool, ◌&&◌}
use Rattle.std.specs.HashSet.{contains}
use Rattle.ir_syntax.specs.declared.symbol.Sym.{Sym}
use Rattle.interface.specs.declared.seen.Seen.{Seen}

abbrev pub has : Seen → Sym → Bool
has seen symbol = contains (λ p q. nat_eq p.0 q.0 && nat_eq p.1 q.1) seen.symbols (symbol.module, symbol.item)
