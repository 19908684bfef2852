-- Operands, blocks, flags and alignments of instructions.
use Rattle.std.specs.Prelude.{ℕ, suc, ◌+◌, Bool, true, false, not, ◌&&◌, ◌||◌, List, [], ◌∷◌, drop, Option, Some, None, option_map, option_and_then}
use Rattle.ir_types.specs.declared.scalar.Scalar.{Scalar}
use Rattle.ir_types.specs.declared.scalar.BinOp.{BinOp}
use Rattle.ir_types.specs.declared.scalar.CastOp.{CastOp}
use Rattle.ir_types.specs.declared.scalar.CastOp.TheVariants.{Zext}
use Rattle.ir_types.specs.declared.scalar.Flags.{Flags}
use Rattle.ir_types.specs.declared.shape.Ty.TheBlock.{One}
use Rattle.ir_syntax.specs.declared.constant.Operand.{Operand}
use Rattle.ir_syntax.specs.declared.constant.Operand.TheVariants as operand
use Rattle.ir_syntax.specs.FormedBody.{may_wrap, may_be_exact, may_be_disjoint}
use Rattle.ir_syntax.specs.Straight.{no_flags}
use Rattle.ir_grammar.specs.declared.shape.Shape.{Shape}
use Rattle.ir_grammar.specs.declared.shape.Shape.TheVariants as is
use Rattle.ir_grammar.specs.declared.shape.Digits.TheVariants as digits
use Rattle.ir_grammar.specs.declared.shape.Free.TheVariants as free
use Rattle.ir_grammar.specs.declared.shape.Flag.{Flag}
use Rattle.ir_grammar.specs.declared.shape.Flag.TheVariants as flag
use Rattle.ir_grammar.specs.Numbers.{number_of, exponent_of}
use Rattle.ir_grammar.specs.Tokens.{Kept}
use Rattle.ir_scope.specs.Runs.{Reading, behind}
use Rattle.ir_scope.specs.Scopes.{Env}
use Rattle.ir_constants.specs.Constants.{constant_at}
use Rattle.ir_locals.specs.Locals.{Local, local_name, local_among, operand_in, block_in}

-- what names stand for in a function: in its module, and in itself
pub record Names : Type 0 where
  pub env : Env
  pub locals : List (List ℕ × Local)

-- a local name, or a constant at the type
abbrev pub operand_at : Names → Scalar → Reading Operand
operand_at names ty ((is.Local, text) ∷ ks) = option_map (λ value. (value, 1)) (operand_in (local_among names.locals (local_name text)))
operand_at names ty ks = option_map (λ f. (operand.Const f.0, f.1)) (constant_at names.env (One ty) ks)

-- the name of a block
abbrev pub block_at : Names → Reading ℕ
block_at names ((is.Local, text) ∷ ks) = option_map (λ place. (place, 1)) (block_in (local_among names.locals (local_name text)))
block_at names _ = None

-- one after another
abbrev pub then_at : {X Y Z : Type 0} → (X → Y → Z) → List Kept → Reading Y → Option (X × ℕ) → Option (Z × ℕ)
then_at make ks next found = option_and_then (λ f. behind f.1 (option_map (λ g. (make f.0 g.0, g.1)) (next (drop f.1 ks)))) found

-- a scalar, and what is read at it
abbrev pub typed : {X : Type 0} → (Scalar → Reading X) → Reading (Scalar × X)
typed next ((is.Scalar ty, text) ∷ ks) = behind 1 (option_map (λ f. ((ty, f.0), f.1)) (next ty ks))
typed next _ = None

-- T a, b
abbrev pub pair_at : Names → Scalar → Reading (Operand × Operand)
pair_at names ty ks = then_at (λ a b. (a, b)) ks (operand_at names ty) (operand_at names ty ks)

abbrev pub with_flag : Flag → Flags → Flags
with_flag flag.Nuw flags = record { nuw = true; nsw = flags.nsw; exact = flags.exact; disjoint = flags.disjoint }
with_flag flag.Nsw flags = record { nuw = flags.nuw; nsw = true; exact = flags.exact; disjoint = flags.disjoint }
with_flag flag.Exact flags = record { nuw = flags.nuw; nsw = flags.nsw; exact = true; disjoint = flags.disjoint }
with_flag flag.Disjoint flags = record { nuw = flags.nuw; nsw = flags.nsw; exact = flags.exact; disjoint = true }
with_flag _ flags = flags

-- the flags in front, and how many they are
abbrev pub flags_at : List Kept → Flags × ℕ
flags_at ((is.Free (free.Flag f), text) ∷ ks) = (with_flag f (flags_at ks).0, suc (flags_at ks).1)
flags_at _ = (no_flags, 0)

-- An operation has no flag but its own.
abbrev pub allows : BinOp → Flags → Bool
allows op flags =
    (not flags.nuw || may_wrap op) && (not flags.nsw || may_wrap op) && (not flags.exact || may_be_exact op) && (not flags.disjoint || may_be_disjoint op)

-- whether a flag stands in front, and how many lexemes that is
abbrev pub nneg_at : List Kept → Bool × ℕ
nneg_at ((is.Free (free.Flag flag.Nneg), text) ∷ ks) = (true, 1)
nneg_at _ = (false, 0)

-- `nneg` stands at `zext` alone.
abbrev pub allows_nneg : CastOp → Bool → Bool
allows_nneg Zext nneg = true
allows_nneg _ nneg = not nneg

abbrev pub inbounds_at : List Kept → Bool × ℕ
inbounds_at ((is.Free (free.Flag flag.Inbounds), text) ∷ ks) = (true, 1)
inbounds_at _ = (false, 0)

-- [ align n ], as the exponent of n
abbrev pub align_at : List Kept → Option ℕ × ℕ
align_at ((is.Int digits.Power, text) ∷ ks) = (exponent_of (number_of text), 1)
align_at _ = (None, 0)

-- what is made of a reading and of an alignment behind it
abbrev pub aligned : {X Y : Type 0} → (X → Option ℕ → Y) → List Kept → Option (X × ℕ) → Option (Y × ℕ)
aligned make ks found = option_map (λ f. let align = align_at (drop f.1 ks) in (make f.0 align.0, f.1 + align.1)) found
