-- What operations give of known values: their number where they give one. Where they give poison or are undefined, the result
-- varies, so that the instruction stays.
use Rattle.std.specs.Prelude.{Bool, true, false, if◌then◌else◌}
use Rattle.ir_types.specs.declared.scalar.Scalar.{Scalar}
use Rattle.ir_types.specs.declared.scalar.Flags.{Flags}
use Rattle.ir_types.specs.declared.scalar.BinOp.{BinOp}
use Rattle.ir_types.specs.declared.scalar.Pred.{Pred}
use Rattle.ir_types.specs.declared.scalar.Pred.TheVariants.{Eq, Ne, Ugt, Uge, Ult, Ule, Sgt, Sge, Slt, Sle}
use Rattle.ir_types.specs.declared.scalar.CastOp.{CastOp}
use Rattle.ir_types.specs.declared.scalar.Known.{Known}
use Rattle.ir_types.specs.declared.scalar.Known.TheVariants.{Unknown, Num, Null}
use Rattle.int_ops.specs.declared.outcome.Outcome.{Outcome}
use Rattle.int_ops.specs.declared.outcome.Outcome.TheVariants as outcome
use Rattle.int_ops.specs.Binary.{bin_outcome}
use Rattle.int_ops.specs.Comparisons.{icmp_holds}
use Rattle.int_ops.specs.Casts.{cast_outcome}
use Rattle.fold_facts.specs.declared.fact.Fact.{Fact}
use Rattle.fold_facts.specs.declared.fact.Fact.TheVariants.{One, Varying}

abbrev pub outcome_fact : Outcome → Fact
outcome_fact (outcome.Num n) = One (Num n)
outcome_fact outcome.Poison = Varying
outcome_fact (outcome.Undefined cause) = Varying

-- a number of i1
abbrev pub bit_fact : Bool → Fact
bit_fact holds = One (Num (if holds then 1 else 0))

-- Null is equal to null.
abbrev pub holds_of_equals : Pred → Bool
holds_of_equals Eq = true
holds_of_equals Ne = false
holds_of_equals Ugt = false
holds_of_equals Uge = true
holds_of_equals Ult = false
holds_of_equals Ule = true
holds_of_equals Sgt = false
holds_of_equals Sge = true
holds_of_equals Slt = false
holds_of_equals Sle = true

abbrev pub bin_fact : BinOp → Flags → Scalar → Known → Known → Fact
bin_fact op flags ty (Num a) (Num b) = outcome_fact (bin_outcome op flags ty a b)
bin_fact op flags ty (Num a) Unknown = Varying
bin_fact op flags ty (Num a) Null = Varying
bin_fact op flags ty Unknown other = Varying
bin_fact op flags ty Null other = Varying

abbrev pub icmp_fact : Pred → Scalar → Known → Known → Fact
icmp_fact pred ty (Num a) (Num b) = bit_fact (icmp_holds pred ty a b)
icmp_fact pred ty (Num a) Unknown = Varying
icmp_fact pred ty (Num a) Null = Varying
icmp_fact pred ty Null Null = bit_fact (holds_of_equals pred)
icmp_fact pred ty Null Unknown = Varying
icmp_fact pred ty Null (Num b) = Varying
icmp_fact pred ty Unknown other = Varying

abbrev pub cast_fact : CastOp → Bool → Scalar → Scalar → Known → Fact
cast_fact op nneg from to (Num a) = outcome_fact (cast_outcome op nneg from to a)
cast_fact op nneg from to Unknown = Varying
cast_fact op nneg from to Null = Varying
