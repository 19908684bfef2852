-- Marks of one lexeme: how an integer is extended, a scalar, and `...`.
use Rattle.std.specs.Prelude.{ℕ, Bool, true, false, List, ◌∷◌, Option, Some, None}
use Rattle.ir_types.specs.declared.scalar.Scalar.{Scalar}
use Rattle.ir_types.specs.declared.scalar.Ext.{Ext}
use Rattle.ir_types.specs.declared.scalar.Ext.TheVariants.{Plain}
use Rattle.ir_grammar.specs.declared.shape.Shape.{Shape}
use Rattle.ir_grammar.specs.declared.shape.Shape.TheVariants as is
use Rattle.ir_grammar.specs.Tokens.{Kept}
use Rattle.ir_scope.specs.Runs.{Reading}

-- [ signext or zeroext ]
abbrev pub ext_at : List Kept → Ext × ℕ
ext_at ((is.Ext ext, text) ∷ ks) = (ext, 1)
ext_at _ = (Plain, 0)

abbrev pub is_scalar : Shape → Bool
is_scalar (is.Scalar ty) = true
is_scalar _ = false

abbrev pub scalar_at : Reading Scalar
scalar_at ((is.Scalar ty, text) ∷ ks) = Some (ty, 1)
scalar_at _ = None

-- [ ... ]
abbrev pub dots_at : List Kept → Bool × ℕ
dots_at ((is.Dots, text) ∷ ks) = (true, 1)
dots_at _ = (false, 0)
