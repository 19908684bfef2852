use Rattle.std.proofs.Common.{◌≡◌, ◌<◌, ◌⊎◌, inl, inr, sym, subst, refl, arith, Option, IfNone}
use Rattle.ir_types.specs.Nesting.{nesting, nodes}
use Rattle.ir_scope.proofs.Measuring.{nodes-positive, scalar_measures, array_measures, struct_measures, too_large}
use Rattle.ir_scope.specs.declared.measures.Measure.{Measure}
use Rattle.ir_scope.proofs.measures.+measure.Goals as goal

pub measured-returns-then-most-eq0-clause-none : goal.measured-returns-then-most-eq0-clause-none
measured-returns-then-most-eq0-clause-none t c = inr (omega (arith, nodes-positive c.args.ty.now))

pub measured-returns-then-depth-eq0-clause-none : goal.measured-returns-then-depth-eq0-clause-none
measured-returns-then-depth-eq0-clause-none t c = let e = array_measures c.args.ty.now _ _ _ c.in-Array.is refl in inl (omega arith)

pub measured-returns-then-depth-eq0-2-clause-none : goal.measured-returns-then-depth-eq0-2-clause-none
measured-returns-then-depth-eq0-2-clause-none t c = let e = struct_measures c.args.ty.now _ _ c.in-Struct.is refl in inl (omega arith)

pub measured-returns-in_err-element-in-Array-clause-none : goal.measured-returns-in_err-element-in-Array-clause-none
measured-returns-in_err-element-in-Array-clause-none t c =
    subst (λ (o : Option Measure). IfNone o ((c.args.depth < nesting c.args.ty.now) ⊎ (c.args.most < nodes c.args.ty.now))) (sym c.from_residual.ensures)
    (too_large c.args.ty.now _ _ c.args.depth c.args.most (array_measures c.args.ty.now _ _ _ c.in-Array.is c.get.ensures) (omega arith) (omega arith) c.in_err-element-in-Array.ensures.none)

pub measured-returns-in_err-fields-in-Struct-clause-none : goal.measured-returns-in_err-fields-in-Struct-clause-none
measured-returns-in_err-fields-in-Struct-clause-none t c =
    subst (λ (o : Option Measure). IfNone o ((c.args.depth < nesting c.args.ty.now) ⊎ (c.args.most < nodes c.args.ty.now))) (sym c.from_residual-in_err-fields-in-Struct.ensures)
    (too_large c.args.ty.now _ _ c.args.depth c.args.most (struct_measures c.args.ty.now _ _ c.in-Struct.is c.as_slice.ensures) (omega arith) (omega arith) c.in_err-fields-in-Struct.ensures.none)

pub measured-returns-in-One-clause-nesting : goal.measured-returns-in-One-clause-nesting
measured-returns-in-One-clause-nesting t c = let e = scalar_measures c.args.ty.now _ c.in-One.is in (sym e.nesting, omega arith)

pub measured-returns-in-One-clause-nodes : goal.measured-returns-in-One-clause-nodes
measured-returns-in-One-clause-nodes t c = let e = scalar_measures c.args.ty.now _ c.in-One.is in (sym e.nodes, omega arith)

pub measured-returns-in_ok-element-in-Array-clause-nesting : goal.measured-returns-in_ok-element-in-Array-clause-nesting
measured-returns-in_ok-element-in-Array-clause-nesting t c = let e = array_measures c.args.ty.now _ _ _ c.in-Array.is c.get.ensures in (omega (arith, c.in_ok-element-in-Array.ensures.nesting.0), omega (arith, c.in_ok-element-in-Array.ensures.nesting.1))

pub measured-returns-in_ok-element-in-Array-clause-nodes : goal.measured-returns-in_ok-element-in-Array-clause-nodes
measured-returns-in_ok-element-in-Array-clause-nodes t c = let e = array_measures c.args.ty.now _ _ _ c.in-Array.is c.get.ensures in (omega (arith, c.in_ok-element-in-Array.ensures.nodes.0), omega (arith, c.in_ok-element-in-Array.ensures.nodes.1))

pub measured-returns-in_ok-fields-in-Struct-clause-nesting : goal.measured-returns-in_ok-fields-in-Struct-clause-nesting
measured-returns-in_ok-fields-in-Struct-clause-nesting t c = let e = struct_measures c.args.ty.now _ _ c.in-Struct.is c.as_slice.ensures in (omega (arith, c.in_ok-fields-in-Struct.ensures.nesting.0), omega (arith, c.in_ok-fields-in-Struct.ensures.nesting.1))

pub measured-returns-in_ok-fields-in-Struct-clause-nodes : goal.measured-returns-in_ok-fields-in-Struct-clause-nodes
measured-returns-in_ok-fields-in-Struct-clause-nodes t c = let e = struct_measures c.args.ty.now _ _ c.in-Struct.is c.as_slice.ensures in (omega (arith, c.in_ok-fields-in-Struct.ensures.nodes.0), omega (arith, c.in_ok-fields-in-Struct.ensures.nodes.1))
