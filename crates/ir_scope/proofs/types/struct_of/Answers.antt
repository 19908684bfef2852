use Rattle.std.proofs.Common.{◌∙◌, sym, refl, arith, not, ap}
use Rattle.std.proofs.lemmas.List.{take_rest}
use Rattle.ir_grammar.specs.Tokens.{seen}
use Rattle.ir_scope.proofs.Measuring.{struct_measures}
use Rattle.ir_scope.proofs.Typing.{struct_fits, struct_open, struct_deep}
use Rattle.ir_scope.proofs.types.struct_of.Goals as goal
use Rattle.ir_scope.proofs.types.struct_of.Goals.{then-fields-ge-DEEPEST-via-then-fields-ge-DEEPEST, then-fields-ge-DEEPEST-via-else-fields-ge-DEEPEST+then-not-closes}

pub returns-then-fields-ge-DEEPEST-clause-exact : goal.returns-then-fields-ge-DEEPEST-clause-exact
returns-then-fields-ge-DEEPEST-clause-exact c =
    let m = c.args.fields.measured in
    elim c.then-fields-ge-DEEPEST.branch [
      | then-fields-ge-DEEPEST-via-then-fields-ge-DEEPEST w ↦ struct_deep (seen c.args.kept.now) c.args.fields.types c.args.fields.taken (omega (arith, m.0, w.if-fields-ge-DEEPEST.true))
      | then-fields-ge-DEEPEST-via-else-fields-ge-DEEPEST+then-not-closes w ↦
          struct_open c.args.kept.now _ c.args.fields.types c.args.fields.taken (take_rest c.args.kept.now c.args.fields.taken) (sym w.if-not-closes.true ∙ w.closes.ensures)
    ]

pub invariant_of-result : goal.invariant_of-result
invariant_of-result c =
    let m = c.args.fields.measured in
    let f = c.args.fields.fits in
    let e = struct_measures _ c.args.fields.types c.args.fields.types refl refl in
    record {
      measured = (omega (arith, m.0, e.nesting), omega (arith, m.1, e.nodes));
      fits = (omega arith, omega arith, omega (arith, f.1));
    }

pub returns-clause-exact : goal.returns-clause-exact
returns-clause-exact c =
    let m = c.args.fields.measured in
    let f = c.args.fields.fits in
    struct_fits c.args.kept.now _ c.args.fields.types c.args.fields.taken (take_rest c.args.kept.now c.args.fields.taken) c.if-not-closes.ensures (omega (arith, m.0)) (omega (arith, m.1, f.1))
