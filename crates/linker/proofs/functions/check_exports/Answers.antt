use Rattle.std.proofs.Common.{◌≡◌, length, ap, sym, subst, refl, arith, List, ℕ}
use Rattle.std.proofs.lemmas.Bool.{false≢true}
use Rattle.std.specs.List.{All}
use Rattle.ir_syntax.specs.declared.symbol.Sym.{Sym}
use Rattle.ir_syntax.specs.Refusals.{Rule, IsRefused}
use Rattle.ir_syntax.specs.Programs.{IsNamedFunction}
use Rattle.linker.specs.Linking.{deployment_of}
use Rattle.linker.proofs.Steps.{zip_long, goes, whole}
use Rattle.linker.proofs.Tables.{function_stands}
use Rattle.linker.proofs.Deployed.{IsShaped, named_at, export_misfits_at, export_shaped, exports_kept}
use Rattle.linker.proofs.functions.check_exports.Goals as goal

pub bounds-symbols-i : goal.bounds-symbols-i
bounds-symbols-i c =
    let long : length c.args.manifest.now.exports ≡ length c.args.symbols.now = zip_long (IsNamedFunction c.args.modules.now) c.args.manifest.now.exports c.args.symbols.now c.requires.exports in
    let same : length c.as_slice-exports.result.now ≡ length c.args.manifest.now.exports = ap length c.as_slice-exports.ensures in
    omega arith

pub function_at-requires : goal.function_at-requires
function_at-requires c = let d : Sym = record { «module» = 0; item = 0 } in function_stands c.args.modules.now _ _ (named_at c.args.modules.now c.as_slice-exports.result.now c.args.manifest.now.exports c.args.symbols.now c.loop-i.i c.index-exports-i.result d c.as_slice-exports.ensures c.loop-i-test.true c.index-exports-i.is c.requires.exports)

pub returns-then-not-has_plain_shape-clause-refused : goal.returns-then-not-has_plain_shape-clause-refused
returns-then-not-has_plain_shape-clause-refused c = let d : Sym = record { «module» = 0; item = 0 } in
    subst (λ (n : List ℕ). IsRefused c.args.modules.now (deployment_of c.args.manifest.now) Rule.ExportShape n) (sym c.in_ok-symbol.ensures)
    (export_misfits_at c.args.modules.now (deployment_of c.args.manifest.now) c.as_slice-exports.result.now c.loop-i.i c.index-exports-i.result c.args.symbols.now _ c.function_at.result.now c.as_slice-exports.ensures c.loop-i-test.true c.index-exports-i.is c.requires.kept c.requires.exports c.loop-i.invariant
    (named_at c.args.modules.now c.as_slice-exports.result.now c.args.manifest.now.exports c.args.symbols.now c.loop-i.i c.index-exports-i.result d c.as_slice-exports.ensures c.loop-i-test.true c.index-exports-i.is c.requires.exports)
    c.function_at.ensures (λ plain. false≢true (c.if-not-has_plain_shape.ensures.1 plain)))

pub loop-i-preserved : goal.loop-i-preserved
loop-i-preserved c = let d : Sym = record { «module» = 0; item = 0 } in
    goes (IsShaped c.args.modules.now) c.as_slice-exports.result.now c.loop-i.i c.index-exports-i.result c.loop-i-test.true c.index-exports-i.is c.loop-i.invariant
    (export_shaped c.args.modules.now (deployment_of c.args.manifest.now) c.index-exports-i.result _ c.function_at.result.now c.requires.kept
    (named_at c.args.modules.now c.as_slice-exports.result.now c.args.manifest.now.exports c.args.symbols.now c.loop-i.i c.index-exports-i.result d c.as_slice-exports.ensures c.loop-i-test.true c.index-exports-i.is c.requires.exports)
    c.function_at.ensures (c.if-not-has_plain_shape.ensures.0 refl))

pub returns-clause-kept : goal.returns-clause-kept
returns-clause-kept c = exports_kept c.args.modules.now (deployment_of c.args.manifest.now) c.args.symbols.now c.requires.kept c.requires.exports (subst (λ (ns : List (List ℕ)). All (IsShaped c.args.modules.now) ns) c.as_slice-exports.ensures (whole (IsShaped c.args.modules.now) c.as_slice-exports.result.now c.loop-i.i c.loop-i-test.false c.loop-i.invariant))
