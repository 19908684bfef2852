-- The grammar takes the flags of instructions, and what stands behind them.
use Rattle.std.proofs.Common.{◌≡◌, Bool, true, false, ◌∷◌, ◌++◌, None, refl}
use Rattle.std.specs.Prelude.{codes}
use Rattle.ir_types.specs.declared.scalar.Scalar.{Scalar}
use Rattle.ir_types.specs.declared.scalar.BinOp.{BinOp}
use Rattle.ir_types.specs.declared.scalar.BinOp.TheVariants as op
use Rattle.ir_types.specs.declared.scalar.Flags.{Flags}
use Rattle.ir_syntax.specs.FormedBody.{AllowsFlags}
use Rattle.ir_grammar.specs.declared.shape.Shape.TheVariants as is
use Rattle.ir_grammar.specs.declared.shape.Flag.TheVariants as flag
use Rattle.ir_grammar.specs.declared.grammar.Item.TheVariants as item
use Rattle.ir_grammar.specs.declared.grammar.Name.TheVariants as the
use Rattle.ir_grammar.specs.Items as grammar
use Rattle.ir_writer.specs.Words.{Parts, scalar, said, op_text, word, space}
use Rattle.ir_writer.specs.Instructions.{flag_parts}
use Rattle.round_trip.proofs.Grammar.Kept.{Lexemes, flag_kept, flags_kept}
use Rattle.round_trip.proofs.Grammar.Parts.{Through, spaced, keeps, passes}
use Rattle.round_trip.proofs.Grammar.Words.{scalar_shape}
use Rattle.round_trip.proofs.Grammar.Walking.{Items}

abbrev parts_of : Bool → Bool → Bool → Bool → Parts
parts_of nuw nsw exact disjoint = said nuw (codes "nuw") ++ (said nsw (codes "nsw") ++ (said exact (codes "exact") ++ said disjoint (codes "disjoint")))

abbrev kept_of : Bool → Bool → Bool → Bool → Lexemes
kept_of nuw nsw exact disjoint =
    flag_kept nuw flag.Nuw (codes "nuw") ++ (flag_kept nsw flag.Nsw (codes "nsw") ++ (flag_kept exact flag.Exact (codes "exact") ++ flag_kept disjoint flag.Disjoint (codes "disjoint")))

-- What stands behind the flags begins with a scalar.
module _ (ty : Scalar) (rest : Parts) (kept : Lexemes) (next left : Items) (behind : Through (grammar.a_scalar ∷ next) (scalar ty ∷ rest) kept left) where
  -- [nuw] [nsw]
  overflow_through : (nuw nsw exact disjoint : Bool) → exact ≡ false → disjoint ≡ false → Through (grammar.flags (grammar.flag flag.Nuw) (grammar.flag flag.Nsw) None ∷ grammar.a_scalar ∷ next) (parts_of nuw nsw exact disjoint ++ scalar ty ∷ rest) (kept_of nuw nsw exact disjoint ++ kept) left
  overflow_through true true false false e f = keeps refl refl refl (spaced (keeps refl refl refl (spaced (passes (scalar_shape ty) refl behind))))
  overflow_through true false false false e f = keeps refl refl refl (spaced (passes (scalar_shape ty) refl behind))
  overflow_through false true false false e f = keeps refl refl refl (spaced (passes (scalar_shape ty) refl behind))
  overflow_through false false false false e f = passes (scalar_shape ty) refl behind
  overflow_through _ _ true _ e f = cc
  overflow_through _ _ false true e f = cc

  -- [exact]
  exact_through : (nuw nsw exact disjoint : Bool) → nuw ≡ false → nsw ≡ false → disjoint ≡ false → Through (grammar.flags (grammar.flag flag.Exact) None None ∷ grammar.a_scalar ∷ next) (parts_of nuw nsw exact disjoint ++ scalar ty ∷ rest) (kept_of nuw nsw exact disjoint ++ kept) left
  exact_through false false true false d e f = keeps refl refl refl (spaced (passes (scalar_shape ty) refl behind))
  exact_through false false false false d e f = passes (scalar_shape ty) refl behind
  exact_through true _ _ _ d e f = cc
  exact_through false true _ _ d e f = cc
  exact_through false false _ true d e f = cc

  -- [disjoint]
  disjoint_through : (nuw nsw exact disjoint : Bool) → nuw ≡ false → nsw ≡ false → exact ≡ false → Through (grammar.flags (grammar.flag flag.Disjoint) None None ∷ grammar.a_scalar ∷ next) (parts_of nuw nsw exact disjoint ++ scalar ty ∷ rest) (kept_of nuw nsw exact disjoint ++ kept) left
  disjoint_through false false false true d e f = keeps refl refl refl (spaced (passes (scalar_shape ty) refl behind))
  disjoint_through false false false false d e f = passes (scalar_shape ty) refl behind
  disjoint_through true _ _ _ d e f = cc
  disjoint_through false true _ _ d e f = cc
  disjoint_through false false true _ d e f = cc

  -- none
  unflagged_through : (nuw nsw exact disjoint : Bool) → nuw ≡ false → nsw ≡ false → exact ≡ false → disjoint ≡ false → Through (grammar.a_scalar ∷ next) (parts_of nuw nsw exact disjoint ++ scalar ty ∷ rest) (kept_of nuw nsw exact disjoint ++ kept) left
  unflagged_through false false false false c d e f = behind
  unflagged_through true _ _ _ c d e f = cc
  unflagged_through false true _ _ c d e f = cc
  unflagged_through false false true _ c d e f = cc
  unflagged_through false false false true c d e f = cc

  -- [nneg]
  pub nneg_through : (nneg : Bool) → Through (grammar.flags (grammar.flag flag.Nneg) None None ∷ grammar.a_scalar ∷ next) (said nneg (codes "nneg") ++ scalar ty ∷ rest) (flag_kept nneg flag.Nneg (codes "nneg") ++ kept) left
  nneg_through true = keeps refl refl refl (spaced (passes (scalar_shape ty) refl behind))
  nneg_through false = passes (scalar_shape ty) refl behind

refused : (b : Bool) → (b ≡ true → false ≡ true) → b ≡ false
refused true h = cc (h refl)
refused false h = refl

-- an operation with its flags, and what stands behind them
pub bin_through : (op : BinOp) (flags : Flags) → AllowsFlags op flags → (ty : Scalar) (rest : Parts) (kept : Lexemes) (next left : Items) →
    Through (grammar.a_scalar ∷ item.One the.Operand ∷ grammar.comma ∷ item.One the.Operand ∷ item.Many the.CommaAttachment ∷ item.One (the.Lines false) ∷ next) (scalar ty ∷ rest) kept left →
    Through (item.One (the.NamedLine false) ∷ next) (word (op_text op) ∷ space ∷ (flag_parts flags ++ scalar ty ∷ rest)) ((is.Bin op, op_text op) ∷ (flags_kept flags ++ kept)) left
bin_through op.Add flags allows ty rest kept next left h = keeps refl refl refl (spaced (overflow_through ty rest kept _ left h flags.nuw flags.nsw flags.exact flags.disjoint (refused flags.exact allows.exact) (refused flags.disjoint allows.disjoint)))
bin_through op.Sub flags allows ty rest kept next left h = keeps refl refl refl (spaced (overflow_through ty rest kept _ left h flags.nuw flags.nsw flags.exact flags.disjoint (refused flags.exact allows.exact) (refused flags.disjoint allows.disjoint)))
bin_through op.Mul flags allows ty rest kept next left h = keeps refl refl refl (spaced (overflow_through ty rest kept _ left h flags.nuw flags.nsw flags.exact flags.disjoint (refused flags.exact allows.exact) (refused flags.disjoint allows.disjoint)))
bin_through op.Udiv flags allows ty rest kept next left h = keeps refl refl refl (spaced (exact_through ty rest kept _ left h flags.nuw flags.nsw flags.exact flags.disjoint (refused flags.nuw allows.nuw) (refused flags.nsw allows.nsw) (refused flags.disjoint allows.disjoint)))
bin_through op.Sdiv flags allows ty rest kept next left h = keeps refl refl refl (spaced (exact_through ty rest kept _ left h flags.nuw flags.nsw flags.exact flags.disjoint (refused flags.nuw allows.nuw) (refused flags.nsw allows.nsw) (refused flags.disjoint allows.disjoint)))
bin_through op.Urem flags allows ty rest kept next left h = keeps refl refl refl (spaced (unflagged_through ty rest kept _ left h flags.nuw flags.nsw flags.exact flags.disjoint (refused flags.nuw allows.nuw) (refused flags.nsw allows.nsw) (refused flags.exact allows.exact) (refused flags.disjoint allows.disjoint)))
bin_through op.Srem flags allows ty rest kept next left h = keeps refl refl refl (spaced (unflagged_through ty rest kept _ left h flags.nuw flags.nsw flags.exact flags.disjoint (refused flags.nuw allows.nuw) (refused flags.nsw allows.nsw) (refused flags.exact allows.exact) (refused flags.disjoint allows.disjoint)))
bin_through op.Shl flags allows ty rest kept next left h = keeps refl refl refl (spaced (overflow_through ty rest kept _ left h flags.nuw flags.nsw flags.exact flags.disjoint (refused flags.exact allows.exact) (refused flags.disjoint allows.disjoint)))
bin_through op.Lshr flags allows ty rest kept next left h = keeps refl refl refl (spaced (exact_through ty rest kept _ left h flags.nuw flags.nsw flags.exact flags.disjoint (refused flags.nuw allows.nuw) (refused flags.nsw allows.nsw) (refused flags.disjoint allows.disjoint)))
bin_through op.Ashr flags allows ty rest kept next left h = keeps refl refl refl (spaced (exact_through ty rest kept _ left h flags.nuw flags.nsw flags.exact flags.disjoint (refused flags.nuw allows.nuw) (refused flags.nsw allows.nsw) (refused flags.disjoint allows.disjoint)))
bin_through op.And flags allows ty rest kept next left h = keeps refl refl refl (spaced (unflagged_through ty rest kept _ left h flags.nuw flags.nsw flags.exact flags.disjoint (refused flags.nuw allows.nuw) (refused flags.nsw allows.nsw) (refused flags.exact allows.exact) (refused flags.disjoint allows.disjoint)))
bin_through op.Or flags allows ty rest kept next left h = keeps refl refl refl (spaced (disjoint_through ty rest kept _ left h flags.nuw flags.nsw flags.exact flags.disjoint (refused flags.nuw allows.nuw) (refused flags.nsw allows.nsw) (refused flags.exact allows.exact)))
bin_through op.Xor flags allows ty rest kept next left h = keeps refl refl refl (spaced (unflagged_through ty rest kept _ left h flags.nuw flags.nsw flags.exact flags.disjoint (refused flags.nuw allows.nuw) (refused flags.nsw allows.nsw) (refused flags.exact allows.exact) (refused flags.disjoint allows.disjoint)))
