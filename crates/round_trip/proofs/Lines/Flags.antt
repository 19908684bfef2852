-- Flags and attributes are read again.
use Rattle.std.proofs.Common.{◌≡◌, Bool, true, false, not, ◌&&◌, ◌||◌, codes, ◌∷◌, ◌++◌, length, refl}
use Rattle.std.proofs.lemmas.Bool.{and_from}
use Rattle.ir_types.specs.declared.scalar.Scalar.{Scalar}
use Rattle.ir_types.specs.declared.scalar.Ext.{Ext}
use Rattle.ir_types.specs.declared.scalar.Ext.TheVariants as ext
use Rattle.ir_types.specs.declared.scalar.BinOp.{BinOp}
use Rattle.ir_types.specs.declared.scalar.CastOp.{CastOp}
use Rattle.ir_types.specs.declared.scalar.CastOp.TheVariants.{Zext, Sext, Trunc}
use Rattle.ir_types.specs.declared.scalar.Flags.{Flags}
use Rattle.ir_syntax.specs.FormedBody.{AllowsFlags, may_wrap, may_be_exact, may_be_disjoint}
use Rattle.ir_grammar.specs.declared.shape.Flag.TheVariants as flag
use Rattle.ir_operands.specs.Operands.{flags_at, allows, nneg_at, allows_nneg, inbounds_at}
use Rattle.ir_operands.specs.Marks.{ext_at}
use Rattle.round_trip.proofs.Grammar.Kept.{Lexemes, scalar_kept, flag_kept, flags_kept, ext_kept}

abbrev made : Bool → Bool → Bool → Bool → Flags
made a b c d = record { nuw = a; nsw = b; exact = c; disjoint = d }

pub flags_back : (flags : Flags) (ty : Scalar) (ks : Lexemes) → flags_at (flags_kept flags ++ (scalar_kept ty ∷ ks)) ≡ (flags, length (flags_kept flags))
flags_back flags ty ks = cases flags.nuw flags.nsw flags.exact flags.disjoint
  where
    cases : (a b c d : Bool) → flags_at (flags_kept (made a b c d) ++ (scalar_kept ty ∷ ks)) ≡ (made a b c d, length (flags_kept (made a b c d)))
    cases true true true true = refl
    cases true true true false = refl
    cases true true false true = refl
    cases true true false false = refl
    cases true false true true = refl
    cases true false true false = refl
    cases true false false true = refl
    cases true false false false = refl
    cases false true true true = refl
    cases false true true false = refl
    cases false true false true = refl
    cases false true false false = refl
    cases false false true true = refl
    cases false false true false = refl
    cases false false false true = refl
    cases false false false false = refl

pub or_given : (a b : Bool) → (a ≡ true → b ≡ true) → (not a || b) ≡ true
or_given true b h = h refl
or_given false b h = refl

pub allowed : (op : BinOp) (flags : Flags) → AllowsFlags op flags → allows op flags ≡ true
allowed op flags may =
    and_from ((not flags.nuw || may_wrap op) && (not flags.nsw || may_wrap op) && (not flags.exact || may_be_exact op)) (not flags.disjoint || may_be_disjoint op)
    (and_from ((not flags.nuw || may_wrap op) && (not flags.nsw || may_wrap op)) (not flags.exact || may_be_exact op)
    (and_from (not flags.nuw || may_wrap op) (not flags.nsw || may_wrap op) (or_given flags.nuw (may_wrap op) may.nuw) (or_given flags.nsw (may_wrap op) may.nsw))
    (or_given flags.exact (may_be_exact op) may.exact))
    (or_given flags.disjoint (may_be_disjoint op) may.disjoint)

pub nneg_back : (nneg : Bool) (ty : Scalar) (ks : Lexemes) → nneg_at (flag_kept nneg flag.Nneg (codes "nneg") ++ (scalar_kept ty ∷ ks)) ≡ (nneg, length (flag_kept nneg flag.Nneg (codes "nneg")))
nneg_back true ty ks = refl
nneg_back false ty ks = refl

pub allowed_nneg : (op : CastOp) (nneg : Bool) → (nneg ≡ true → op ≡ Zext) → allows_nneg op nneg ≡ true
allowed_nneg Zext nneg h = refl
allowed_nneg Sext true h = let same : Sext ≡ Zext = h refl in cc
allowed_nneg Sext false h = refl
allowed_nneg Trunc true h = let same : Trunc ≡ Zext = h refl in cc
allowed_nneg Trunc false h = refl

pub inbounds_back : (inbounds : Bool) (ks : Lexemes) → inbounds_at ks ≡ (false, 0) →
    inbounds_at (flag_kept inbounds flag.Inbounds (codes "inbounds") ++ ks) ≡ (inbounds, length (flag_kept inbounds flag.Inbounds (codes "inbounds")))
inbounds_back true ks none = refl
inbounds_back false ks none = none

pub ext_back : (extension : Ext) (ks : Lexemes) → ext_at ks ≡ (ext.Plain, 0) → ext_at (ext_kept extension ++ ks) ≡ (extension, length (ext_kept extension))
ext_back ext.Plain ks none = none
ext_back ext.Signed ks none = refl
ext_back ext.Unsigned ks none = refl
