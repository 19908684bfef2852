-- The indices of a `getelementptr` as a walk into a type takes them.
use Rattle.std.specs.Prelude.{◌≡◌, ℕ, ◌<◌, ◌^◌, List, [], ◌∷◌, Option, None, Some, IfSome}
use Rattle.ir_types.specs.declared.scalar.Scalar.{Scalar}
use Rattle.ir_types.specs.declared.scalar.Scalar.TheVariants.{I32}
use Rattle.ir_types.specs.declared.shape.Index.{Index}
use Rattle.ir_types.specs.declared.shape.Index.TheVariants.{Num, Register}
use Rattle.ir_types.specs.declared.shape.Stride.{Stride}
use Rattle.ir_types.specs.declared.shape.Stride.TheVariants.{Each, Field}
use Rattle.ir_types.specs.Scalars.{signed_value}
use Rattle.ir_syntax.specs.declared.constant.Operand.{Operand}
use Rattle.ir_syntax.specs.Typed.{number_of}

-- a number counts as the signed value of its type
abbrev pub index_with : Scalar → Option ℕ → Index
index_with ty None = Register
index_with ty (Some n) = Num (signed_value ty n)

abbrev pub index_of : Scalar × Operand → Index
index_of index = index_with index.0 (number_of index.1)

-- An index that adds a field's offset is a number of i32.
abbrev pub SuitsStride : Scalar → Option ℕ → Stride → Type 0
SuitsStride ty number (Each size) = Unit {0}
SuitsStride ty number (Field offset) = (ty ≡ I32) × IfSome number (λ n. n < 2 ^ 32)

-- the same of each index and what it adds
abbrev pub SuitStrides : List (Scalar × Operand) → List Stride → Type 0
SuitStrides [] strides = Unit {0}
SuitStrides (index ∷ more) [] = Unit {0}
SuitStrides (index ∷ more) (stride ∷ strides) = SuitsStride index.0 (number_of index.1) stride × SuitStrides more strides
