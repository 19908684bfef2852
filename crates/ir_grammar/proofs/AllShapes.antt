-- All shapes, by their two numbers: shapes of the same numbers are the same, and what is tested of all holds of each.
use Rattle.std.proofs.Common.{◌≡◌, ℕ, zero, suc, Bool, true, ◌&&◌, List, [], ◌∷◌, get_or, refl, ap₂, sym, subst, ◌∙◌}
use Rattle.std.specs.List.{list_all}
use Rattle.std.proofs.lemmas.Bool.{and_parts, eqb-true}
use Rattle.ir_types.specs.declared.scalar.Scalar.TheVariants as scalar
use Rattle.ir_types.specs.declared.scalar.BinOp.TheVariants as op
use Rattle.ir_types.specs.declared.scalar.CastOp.TheVariants as cast
use Rattle.ir_types.specs.declared.scalar.Pred.TheVariants as pred
use Rattle.ir_types.specs.declared.scalar.Ext.TheVariants as ext
use Rattle.ir_syntax.specs.declared.item.Linkage.TheVariants as linkage
use Rattle.ir_grammar.specs.declared.shape.AtName.TheVariants as at
use Rattle.ir_grammar.specs.declared.shape.Digits.TheVariants as digits
use Rattle.ir_grammar.specs.declared.shape.Value.TheVariants as val
use Rattle.ir_grammar.specs.declared.shape.Flag.TheVariants as flag
use Rattle.ir_grammar.specs.declared.shape.Free.TheVariants as free
use Rattle.ir_grammar.specs.declared.shape.Shape.{Shape}
use Rattle.ir_grammar.specs.declared.shape.Shape.TheVariants as is
use Rattle.ir_grammar.specs.Terminals.{kind_code, inner_code, is_same}

-- what stands at a number that no shape has
abbrev pub filler : Shape
filler = is.Local

abbrev pub alone : Shape → List Shape
alone shape = shape ∷ []

abbrev pub free_words : List Shape
free_words =
    is.Free (free.Flag flag.Nuw) ∷ is.Free (free.Flag flag.Nsw) ∷ is.Free (free.Flag flag.Exact) ∷ is.Free (free.Flag flag.Disjoint)
    ∷ is.Free (free.Flag flag.Nneg) ∷ is.Free (free.Flag flag.Inbounds) ∷ is.Free (free.Flag flag.Nusw)
    ∷ filler ∷ filler ∷ filler
    ∷ is.Free (free.Pred pred.Eq) ∷ is.Free (free.Pred pred.Ne) ∷ is.Free (free.Pred pred.Ugt) ∷ is.Free (free.Pred pred.Uge)
    ∷ is.Free (free.Pred pred.Ult) ∷ is.Free (free.Pred pred.Ule) ∷ is.Free (free.Pred pred.Sgt) ∷ is.Free (free.Pred pred.Sge)
    ∷ is.Free (free.Pred pred.Slt) ∷ is.Free (free.Pred pred.Sle)
    ∷ filler ∷ filler ∷ filler ∷ filler ∷ filler ∷ filler ∷ filler ∷ filler ∷ filler ∷ filler
    ∷ is.Free free.Datalayout ∷ is.Free free.Triple ∷ is.Free free.Other
    ∷ []

abbrev pub all_shapes : List (List Shape)
all_shapes =
    (is.At at.Plain ∷ is.At at.Memory ∷ is.At at.Debug ∷ is.At at.Other ∷ [])
    ∷ alone is.Local ∷ alone is.Hash ∷ alone is.Record ∷ alone is.Bang ∷ alone is.Meta ∷ alone is.Str ∷ alone is.CStr ∷ alone is.Label
    ∷ (is.Int digits.Power ∷ is.Int digits.Count ∷ is.Int digits.Other ∷ [])
    ∷ alone is.Equals ∷ alone is.Comma ∷ alone is.OpenParen ∷ alone is.CloseParen ∷ alone is.OpenSquare ∷ alone is.CloseSquare
    ∷ alone is.OpenBrace ∷ alone is.CloseBrace ∷ alone is.OtherMark
    ∷ (is.Scalar scalar.I1 ∷ is.Scalar scalar.I8 ∷ is.Scalar scalar.I16 ∷ is.Scalar scalar.I32 ∷ is.Scalar scalar.I64 ∷ is.Scalar scalar.Ptr ∷ [])
    ∷ alone is.Void
    ∷ (is.Linkage linkage.External ∷ is.Linkage linkage.Internal ∷ is.Linkage linkage.Private ∷ [])
    ∷ (is.Ext ext.Plain ∷ is.Ext ext.Signed ∷ is.Ext ext.Unsigned ∷ [])
    ∷ (is.Value val.True ∷ is.Value val.False ∷ is.Value val.Null ∷ is.Value val.Undef ∷ is.Value val.Poison ∷ is.Value val.Zero ∷ [])
    ∷ (is.Bin op.Add ∷ is.Bin op.Sub ∷ is.Bin op.Mul ∷ is.Bin op.Udiv ∷ is.Bin op.Sdiv ∷ is.Bin op.Urem ∷ is.Bin op.Srem
    ∷ is.Bin op.Shl ∷ is.Bin op.Lshr ∷ is.Bin op.Ashr ∷ is.Bin op.And ∷ is.Bin op.Or ∷ is.Bin op.Xor ∷ [])
    ∷ (is.Cast cast.Zext ∷ is.Cast cast.Sext ∷ is.Cast cast.Trunc ∷ [])
    ∷ alone is.Icmp ∷ alone is.Select ∷ alone is.Phi ∷ alone is.Alloca ∷ alone is.Load ∷ alone is.Store ∷ alone is.Gep ∷ alone is.Call
    ∷ alone is.Ret ∷ alone is.Br ∷ alone is.Switch ∷ alone is.Unreachable ∷ alone is.Tail ∷ alone is.To ∷ alone is.LabelWord ∷ alone is.X
    ∷ alone is.Dots ∷ alone is.Global ∷ alone is.ConstantWord ∷ alone is.Declare ∷ alone is.Define ∷ alone is.TypeWord ∷ alone is.Opaque
    ∷ alone is.Target ∷ alone is.SourceFilename ∷ alone is.AttributesWord ∷ alone is.Distinct ∷ alone is.Align
    ∷ free_words
    ∷ alone is.Reserved ∷ alone is.End ∷ alone is.Result ∷ alone is.Address
    ∷ (is.Returned scalar.I1 ∷ is.Returned scalar.I8 ∷ is.Returned scalar.I16 ∷ is.Returned scalar.I32 ∷ is.Returned scalar.I64 ∷ is.Returned scalar.Ptr ∷ [])
    ∷ []

abbrev pub shape_at : ℕ → ℕ → Shape
shape_at kind inner = get_or (get_or all_shapes kind []) inner filler

pub at_its_numbers : (shape : Shape) → shape_at (kind_code shape) (inner_code shape) ≡ shape
at_its_numbers (is.At at.Plain) = refl
at_its_numbers (is.Int digits.Power) = refl
at_its_numbers (is.Scalar scalar.I1) = refl
at_its_numbers (is.Linkage linkage.External) = refl
at_its_numbers (is.Ext ext.Plain) = refl
at_its_numbers (is.Value val.True) = refl
at_its_numbers (is.Bin op.Add) = refl
at_its_numbers (is.Cast cast.Zext) = refl
at_its_numbers (is.Free (free.Flag flag.Nuw)) = refl
at_its_numbers (is.Free (free.Pred pred.Eq)) = refl
at_its_numbers (is.Returned scalar.I1) = refl
at_its_numbers _ = refl

pub same_shape : (one other : Shape) → is_same one other ≡ true → one ≡ other
same_shape one other same =
    let numbers = and_parts _ _ same in
    sym (at_its_numbers one) ∙ ap₂ shape_at (eqb-true (kind_code one) (kind_code other) numbers.0) (eqb-true (inner_code one) (inner_code other) numbers.1) ∙ at_its_numbers other

-- a test of every shape
abbrev pub is_everywhere : (Shape → Bool) → Bool
is_everywhere test = test filler && list_all (list_all test) all_shapes

at_place : {X : Type 0} (test : X → Bool) (xs : List X) (i : ℕ) (d : X) → list_all test xs ≡ true → test d ≡ true → test (get_or xs i d) ≡ true
at_place test [] i d all at_d = at_d
at_place test (x ∷ xs) zero d all at_d = (and_parts _ _ all).0
at_place test (x ∷ xs) (suc i) d all at_d = at_place test xs i d (and_parts _ _ all).1 at_d

pub everywhere : (test : Shape → Bool) → is_everywhere test ≡ true → (shape : Shape) → test shape ≡ true
everywhere test all shape =
    let parts = and_parts _ _ all in
    subst (λ s. test s ≡ true) (at_its_numbers shape)
    (at_place test (get_or all_shapes (kind_code shape) []) (inner_code shape) filler
    (at_place (list_all test) all_shapes (kind_code shape) [] parts.1 refl) parts.0)
