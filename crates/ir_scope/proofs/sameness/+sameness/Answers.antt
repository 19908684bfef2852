use Rattle.std.proofs.Common.{◌≡◌, ◌∙◌, Bool, true, false, ◌&&◌, nat_eq, sym, ap, refl}
use Rattle.ir_types.specs.declared.shape.Ty.{Ty}
use Rattle.ir_types.specs.declared.shape.Ty.TheOpen.{Ty-F}
use Rattle.ir_scope.specs.Types.{same_type}
use Rattle.ir_syntax.specs.Suits.{each_takes}
use Rattle.ir_scope.proofs.Equal.{same_at, one-out, array-out, struct-out, lengths_differ, arrays_same, arrays_differ}
use Rattle.ir_scope.proofs.sameness.+sameness.Goals as goal

pub same_type-returns-in-One-other : goal.same_type-returns-in-One-other
same_type-returns-in-One-other t c =
    c.same_scalar.ensures ∙ sym (same_at c.args.one.now c.args.other.now _ _ (one-out c.args.one.now _ c.in-One.is) (one-out c.args.other.now _ c.in-One-other.is))

pub same_type-returns-in-Array-other : goal.same_type-returns-in-Array-other
same_type-returns-in-Array-other t c =
    sym (same_at c.args.one.now c.args.other.now _ _ (one-out c.args.one.now _ c.in-One.is) (array-out c.args.other.now _ _ _ c.in-Array-other.is refl))

pub same_type-returns-in-Struct-other : goal.same_type-returns-in-Struct-other
same_type-returns-in-Struct-other t c =
    sym (same_at c.args.one.now c.args.other.now _ _ (one-out c.args.one.now _ c.in-One.is) (struct-out c.args.other.now _ _ c.in-Struct-other.is refl))

pub same_type-returns-in-One-other-2 : goal.same_type-returns-in-One-other-2
same_type-returns-in-One-other-2 t c =
    sym (same_at c.args.one.now c.args.other.now _ _ (array-out c.args.one.now _ _ _ c.in-Array.is refl) (one-out c.args.other.now _ c.in-One-other-2.is))

pub same_type-returns-then-count-same : goal.same_type-returns-then-count-same
same_type-returns-then-count-same t c =
    c.same_type.ensures
    ∙ arrays_same c.args.one.now c.args.other.now _ _ _ _ (array-out c.args.one.now _ _ _ c.in-Array.is c.get.ensures) (array-out c.args.other.now _ _ _ c.in-Array-other-2.is c.get-then-count-same.ensures) c.if-count-same.true

pub same_type-returns-else-count-same : goal.same_type-returns-else-count-same
same_type-returns-else-count-same t c =
    arrays_differ c.args.one.now c.args.other.now _ _ _ _ (array-out c.args.one.now _ _ _ c.in-Array.is refl) (array-out c.args.other.now _ _ _ c.in-Array-other-2.is refl) c.if-count-same.false

pub same_type-returns-in-Struct-other-2 : goal.same_type-returns-in-Struct-other-2
same_type-returns-in-Struct-other-2 t c =
    sym (same_at c.args.one.now c.args.other.now _ _ (array-out c.args.one.now _ _ _ c.in-Array.is refl) (struct-out c.args.other.now _ _ c.in-Struct-other-2.is refl))

pub same_type-returns-in-One-other-3 : goal.same_type-returns-in-One-other-3
same_type-returns-in-One-other-3 t c =
    sym (same_at c.args.one.now c.args.other.now _ _ (struct-out c.args.one.now _ _ c.in-Struct.is refl) (one-out c.args.other.now _ c.in-One-other-3.is))

pub same_type-returns-in-Array-other-3 : goal.same_type-returns-in-Array-other-3
same_type-returns-in-Array-other-3 t c =
    sym (same_at c.args.one.now c.args.other.now _ _ (struct-out c.args.one.now _ _ c.in-Struct.is refl) (array-out c.args.other.now _ _ _ c.in-Array-other-3.is refl))

pub same_type-returns-in-Struct-other-3 : goal.same_type-returns-in-Struct-other-3
same_type-returns-in-Struct-other-3 t c =
    c.same_types.ensures ∙ sym (same_at c.args.one.now c.args.other.now _ _ (struct-out c.args.one.now _ _ c.in-Struct.is c.as_slice.ensures) (struct-out c.args.other.now _ _ c.in-Struct-other-3.is c.as_slice-in-Struct-other-3.ensures))

pub same_types-returns-then-ones-others : goal.same_types-returns-then-ones-others
same_types-returns-then-ones-others t c = sym (lengths_differ same_type c.args.ones.now c.args.others.now c.if-ones-others.true)
