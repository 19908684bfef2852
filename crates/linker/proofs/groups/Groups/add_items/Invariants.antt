use Rattle.std.proofs.Common.{ℕ, List, take, ◌++◌}
use Rattle.ir_syntax.specs.declared.symbol.Sym.{Sym}
use Rattle.linker.specs.Mirrors.Groups.{AreGroups, symbols_in_row}
use Rattle.linker.proofs.groups.Groups.add_items.Given as goal

abbrev pub invariant-loop-item : goal.invariant-loop-item
invariant-loop-item l = (symbols : List ℕ → List Sym) → AreGroups symbols l.initial.self.names l.initial.self.groups.items → AreGroups (λ name. symbols name ++ symbols_in_row l.place 0 (take l.item l.items) name) l.self.names l.self.groups.items
