use Rattle.std.proofs.Common.{◌∙◌, ◌+◌, take, ap, sym, subst, List, ℕ}
use Rattle.std.specs.List.{AllZip}
use Rattle.ir_syntax.specs.declared.symbol.Sym.{Sym}
use Rattle.ir_syntax.specs.Refusals.{Rule, IsRefused}
use Rattle.ir_syntax.specs.Programs.{IsNamedFunction}
use Rattle.linker.specs.Linking.{deployment_of}
use Rattle.linker.specs.Mirrors.Slots.{slot_of, function_in}
use Rattle.linker.proofs.Steps.{zip_goes, whole_zip}
use Rattle.linker.proofs.Tables.{function_found, function_lacks}
use Rattle.linker.proofs.Deployed.{single_at_exports, no_export_at}
use Rattle.linker.proofs.functions.export_symbols.Goals as goal

pub returns-in-None-clause-refused : goal.returns-in-None-clause-refused
returns-in-None-clause-refused c =
    subst (λ (n : List ℕ). IsRefused c.args.modules.now (deployment_of c.args.manifest.now) Rule.NoExport n) (sym c.in_ok-symbol-in-None.ensures)
    (no_export_at c.args.modules.now (deployment_of c.args.manifest.now) c.as_slice-exports.result.now c.loop-name.name-index c.name-item.result c.loop-name.symbols c.as_slice-exports.ensures c.loop-name-test.true c.name-item.is c.requires.kept c.loop-name.invariant
    (function_lacks c.args.modules.now c.args.manifest.now.outside c.args.table.now.names c.args.table.now.slots c.name-item.result c.requires.table (single_at_exports c.args.modules.now (deployment_of c.args.manifest.now) c.requires.kept c.name-item.result) (ap (λ (n : List ℕ). function_in c.args.modules.now (slot_of c.args.table.now.names c.args.table.now.slots n)) (sym c.as_slice.ensures) ∙ sym c.in-None.ensures)))

pub loop-name-preserved : goal.loop-name-preserved
loop-name-preserved c =
    subst (λ (symbols : List Sym). AllZip (IsNamedFunction c.args.modules.now) (take (c.loop-name.name-index + 1) c.as_slice-exports.result.now) symbols) (sym c.in_ok-push-in-Some.ensures.ok)
    (zip_goes (IsNamedFunction c.args.modules.now) c.as_slice-exports.result.now c.loop-name.name-index c.name-item.result c.loop-name.symbols c.in-Some.symbol c.loop-name-test.true c.name-item.is c.loop-name.invariant
    (function_found c.args.modules.now c.args.manifest.now.outside c.args.table.now.names c.args.table.now.slots c.name-item.result c.in-Some.symbol c.requires.table (ap (λ (n : List ℕ). function_in c.args.modules.now (slot_of c.args.table.now.names c.args.table.now.slots n)) (sym c.as_slice.ensures) ∙ sym c.in-Some.ensures)))

pub returns-clause-exports : goal.returns-clause-exports
returns-clause-exports c = whole_zip (IsNamedFunction c.args.modules.now) c.as_slice-exports.result.now c.args.manifest.now.exports c.loop-name.name-index c.loop-name.symbols c.as_slice-exports.ensures c.loop-name-test.false c.loop-name.invariant
