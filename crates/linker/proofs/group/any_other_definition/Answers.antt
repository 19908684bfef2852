use Rattle.ir_syntax.specs.declared.symbol.Sym.{Sym}
use Rattle.linker.specs.Mirrors.Items.{other_definition}
use Rattle.linker.proofs.Steps.{any_stops, any_goes, any_ends}
use Rattle.linker.proofs.group.any_other_definition.Goals as goal

pub returns-then-is_other_definition : goal.returns-then-is_other_definition
returns-then-is_other_definition c = any_stops (λ (symbol : Sym). other_definition c.args.modules.now c.args.definition symbol) c.args.symbols.now c.loop-symbol.symbol-index _ c.loop-symbol-test.true c.loop-symbol.invariant c.if-is_other_definition.ensures

pub loop-symbol-preserved : goal.loop-symbol-preserved
loop-symbol-preserved c = any_goes (λ (symbol : Sym). other_definition c.args.modules.now c.args.definition symbol) c.args.symbols.now c.loop-symbol.symbol-index _ c.loop-symbol-test.true c.loop-symbol.invariant c.if-is_other_definition.ensures

pub returns : goal.returns
returns c = any_ends (λ (symbol : Sym). other_definition c.args.modules.now c.args.definition symbol) c.args.symbols.now c.loop-symbol.symbol-index c.loop-symbol-test.false c.loop-symbol.invariant
