-- The shapes of the words that are written.
use Rattle.std.proofs.Common.{◌≡◌, refl}
use Rattle.ir_types.specs.declared.scalar.Scalar.{Scalar}
use Rattle.ir_types.specs.declared.scalar.Scalar.TheVariants.{I1, I8, I16, I32, I64, Ptr}
use Rattle.ir_types.specs.declared.scalar.Pred.{Pred}
use Rattle.ir_types.specs.declared.scalar.Pred.TheVariants as pred
use Rattle.ir_grammar.specs.declared.shape.Shape.TheVariants as is
use Rattle.ir_grammar.specs.declared.shape.Free.TheVariants as free
use Rattle.ir_grammar.specs.Words.{word_shape}
use Rattle.ir_writer.specs.Words.{scalar_text, pred_text}

pub scalar_shape : (ty : Scalar) → word_shape (scalar_text ty) ≡ is.Scalar ty
scalar_shape I1 = refl
scalar_shape I8 = refl
scalar_shape I16 = refl
scalar_shape I32 = refl
scalar_shape I64 = refl
scalar_shape Ptr = refl

pub pred_shape : (pred : Pred) → word_shape (pred_text pred) ≡ is.Free (free.Pred pred)
pred_shape pred.Eq = refl
pred_shape pred.Ne = refl
pred_shape pred.Ugt = refl
pred_shape pred.Uge = refl
pred_shape pred.Ult = refl
pred_shape pred.Ule = refl
pred_shape pred.Sgt = refl
pred_shape pred.Sge = refl
pred_shape pred.Slt = refl
pred_shape pred.Sle = refl
