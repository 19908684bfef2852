use Rattle.ir_syntax.specs.declared.symbol.Sym.{Sym}
use Rattle.linker.specs.Mirrors.Items.{function_at}
use Rattle.linker.proofs.Steps.{any_stops, any_goes, any_ends}
use Rattle.linker.proofs.group.any_function.Goals as goal

pub returns-then-is_function_at : goal.returns-then-is_function_at
returns-then-is_function_at c = any_stops (λ (symbol : Sym). function_at c.args.modules.now symbol) c.args.symbols.now c.loop-symbol.symbol-index _ c.loop-symbol-test.true c.loop-symbol.invariant c.if-is_function_at.ensures

pub loop-symbol-preserved : goal.loop-symbol-preserved
loop-symbol-preserved c = any_goes (λ (symbol : Sym). function_at c.args.modules.now symbol) c.args.symbols.now c.loop-symbol.symbol-index _ c.loop-symbol-test.true c.loop-symbol.invariant c.if-is_function_at.ensures

pub returns : goal.returns
returns c = any_ends (λ (symbol : Sym). function_at c.args.modules.now symbol) c.args.symbols.now c.loop-symbol.symbol-index c.loop-symbol-test.false c.loop-symbol.invariant
