use Rattle.ir_syntax.specs.declared.symbol.Sym.{Sym}
use Rattle.linker.specs.Mirrors.Items.{defined_at}
use Rattle.linker.proofs.Steps.{find_stops, find_goes, find_ends}
use Rattle.linker.proofs.group.first_definition.Goals as goal

pub returns-then-is_defined_at : goal.returns-then-is_defined_at
returns-then-is_defined_at c = find_stops (λ (symbol : Sym). defined_at c.args.modules.now symbol) c.args.symbols.now c.loop-symbol.symbol-index _ c.loop-symbol-test.true c.loop-symbol.invariant c.if-is_defined_at.ensures

pub loop-symbol-preserved : goal.loop-symbol-preserved
loop-symbol-preserved c = find_goes (λ (symbol : Sym). defined_at c.args.modules.now symbol) c.args.symbols.now c.loop-symbol.symbol-index _ c.loop-symbol-test.true c.loop-symbol.invariant c.if-is_defined_at.ensures

pub returns : goal.returns
returns c = find_ends (λ (symbol : Sym). defined_at c.args.modules.now symbol) c.args.symbols.now c.loop-symbol.symbol-index c.loop-symbol-test.false c.loop-symbol.invariant
