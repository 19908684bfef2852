-- Types and constants as they are written.
use Rattle.std.specs.Prelude.{ℕ, ℤ, zero, pos, ◌-◌, ◌^◌, ◌==◌, nat_lt, codes, List, [], ◌∷◌, ◌++◌, map, if◌then◌else◌}
use Rattle.std.specs.Fmt.{decimal, signed_decimal}
use Rattle.ir_lexer.specs.declared.token.Kind.TheVariants as kind
use Rattle.ir_lexer.specs.Written.{Part, Spelling}
use Rattle.ir_types.specs.declared.scalar.Scalar.{Scalar}
use Rattle.ir_types.specs.declared.scalar.Scalar.TheVariants.{I1, I8, I16, I32, I64, Ptr}
use Rattle.ir_types.specs.declared.shape.Ty.{Ty, out-Ty}
use Rattle.ir_types.specs.declared.shape.Ty.TheOpen.{Ty-F}
use Rattle.ir_types.specs.declared.shape.Ty.TheFolds.{fold-Ty}
use Rattle.ir_syntax.specs.declared.constant.Const.{Const}
use Rattle.ir_syntax.specs.declared.constant.Const.TheOpen.{Const-F}
use Rattle.ir_syntax.specs.declared.constant.Const.TheFolds.{fold-Const}
use Rattle.ir_writer.specs.Names.{quoted, name_text, name_at}
use Rattle.ir_writer.specs.Words.{Parts, space, word, comma, open_paren, close_paren, open_square, close_square, open_brace, close_brace, listed, scalar}

-- ---- types

-- [n x T], { T, T } and {}
abbrev pub braced : List Parts → Parts
braced [] = open_brace ∷ close_brace ∷ []
braced (parts ∷ lists) = open_brace ∷ space ∷ (listed (parts ∷ lists) ++ space ∷ close_brace ∷ [])

abbrev pub type_step : Ty-F Parts → Parts
type_step (Ty-F.One ty) = scalar ty ∷ []
type_step (Ty-F.Array count element) = open_square ∷ Spelling kind.Int (decimal count) ∷ space ∷ word (codes "x") ∷ space ∷ (element ++ close_square ∷ [])
type_step (Ty-F.Struct fields) = braced fields

unfoldable pub type_parts : Ty → Parts
type_parts = fold-Ty Parts type_step

-- ---- integers

-- a number below 2^w as a signed decimal, where half is 2^(w-1)
abbrev pub signed_text : ℕ → ℕ → List ℕ
signed_text half n = if nat_lt n half then decimal n else 45 ∷ decimal (half - (n - half))

-- an integer at its type: true and false of i1, a signed decimal of the others
abbrev pub integer : Scalar → ℕ → Part
integer I1 n = word (if n == 0 then codes "false" else codes "true")
integer I8 n = Spelling kind.Int (signed_text (2 ^ 7) n)
integer I16 n = Spelling kind.Int (signed_text (2 ^ 15) n)
integer I32 n = Spelling kind.Int (signed_text (2 ^ 31) n)
integer I64 n = Spelling kind.Int (signed_text (2 ^ 63) n)
integer Ptr n = Spelling kind.Int (decimal n)

-- ---- constants

abbrev pub symbol : List (List ℕ) → ℕ → Part
symbol names place = Spelling kind.AtName (64 ∷ name_text (name_at names place))

-- @name, or getelementptr (i8, ptr @name, i64 n)
abbrev pub address : List (List ℕ) → ℕ → ℤ → Parts
address names place (pos zero) = symbol names place ∷ []
address names place offset =
    word (codes "getelementptr") ∷ space ∷ open_paren ∷ word (codes "i8") ∷ comma ∷ space ∷ word (codes "ptr") ∷ space ∷ symbol names place ∷ comma ∷ space
    ∷ word (codes "i64") ∷ space ∷ Spelling kind.Int (signed_decimal offset) ∷ close_paren ∷ []

abbrev pub number_at : Ty-F Ty → ℕ → Parts
number_at (Ty-F.One ty) n = integer ty n ∷ []
number_at _ n = Spelling kind.Int (decimal n) ∷ []

-- a type, and what is written at it
abbrev pub typed_part : (Ty → Parts) → Ty → Parts
typed_part part ty = type_parts ty ++ space ∷ part ty

abbrev pub typed_fields : List (Ty → Parts) → List Ty → List Parts
typed_fields [] tys = []
typed_fields (part ∷ parts) [] = []
typed_fields (part ∷ parts) (ty ∷ tys) = typed_part part ty ∷ typed_fields parts tys

-- [T C, T C], or { T C, T C }
abbrev pub many_at : Ty-F Ty → List (Ty → Parts) → Parts
many_at (Ty-F.One ty) parts = []
many_at (Ty-F.Array count element) parts = open_square ∷ (listed (map (λ part. typed_part part element) parts) ++ close_square ∷ [])
many_at (Ty-F.Struct fields) parts = braced (typed_fields parts fields)

-- One constant, where each part says how it is written at a type. The items of the module have these names.
abbrev pub constant_step : List (List ℕ) → Const-F (Ty → Parts) → Ty → Parts
constant_step names (Const-F.Int n) ty = number_at (out-Ty ty) n
constant_step names Const-F.Null ty = word (codes "null") ∷ []
constant_step names (Const-F.Addr place offset) ty = address names place offset
constant_step names Const-F.Undef ty = word (codes "undef") ∷ []
constant_step names Const-F.Poison ty = word (codes "poison") ∷ []
constant_step names Const-F.Zero ty = word (codes "zeroinitializer") ∷ []
constant_step names (Const-F.Text bytes) ty = Spelling kind.CStr (99 ∷ quoted bytes) ∷ []
constant_step names (Const-F.Many parts) ty = many_at (out-Ty ty) parts

unfoldable pub constant_parts : List (List ℕ) → Const → Ty → Parts
constant_parts names = fold-Const (Ty → Parts) (constant_step names)
