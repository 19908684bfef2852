use Rattle.std.proofs.Common.{◌∙◌, ◌⊎◌, inl, inr, ap, refl, sym, arith}
use Rattle.ir_types.specs.Nesting.{nesting, nodes}
use Rattle.ir_scope.proofs.Measuring.{array_measures}
use Rattle.ir_scope.proofs.Typing.{array_large}
use Rattle.ir_scope.proofs.types.array_of.Goals as goal

pub returns-then-element-ge-DEEPEST-clause-exact : goal.returns-then-element-ge-DEEPEST-clause-exact
returns-then-element-ge-DEEPEST-clause-exact c =
    let m = c.args.element.measured in
    array_large c.args.count c.args.element.ty _ (elim c.then-element-ge-DEEPEST.either [ inl h ↦ inl (omega (arith, m.0, h)) | inr h ↦ inr (omega (arith, m.1, h.1)) ])

pub invariant_of-result : goal.invariant_of-result
invariant_of-result c =
    let m = c.args.element.measured in
    let e = array_measures _ c.args.count c.in_ok-new.field-0 c.args.element.ty refl (sym c.in_ok-new.ensures) in
    record {
      measured = (omega (arith, m.0, e.nesting), omega (arith, m.1, e.nodes));
      fits = (omega arith, omega arith, omega arith);
    }
