-- What is known of an operand.
use Rattle.std.specs.Prelude.{List, Option, None, Some, slice_get}
use Rattle.ir_types.specs.declared.scalar.Known.{Known}
use Rattle.ir_types.specs.declared.scalar.Known.TheVariants.{Unknown, Num, Null}
use Rattle.ir_syntax.specs.declared.constant.Const.{Const}
use Rattle.ir_syntax.specs.declared.constant.Const.TheVariants as const
use Rattle.ir_syntax.specs.declared.constant.Operand.{Operand}
use Rattle.ir_syntax.specs.declared.constant.Operand.TheVariants as operand
use Rattle.fold_facts.specs.declared.fact.Fact.{Fact}
use Rattle.fold_facts.specs.declared.fact.Fact.TheVariants.{One, Varying}
use Rattle.fold_facts.specs.Assigned.{fact_of}

-- What a function is folded with: what is known of its parameters.
pub record Setting : Type 0 where
  pub known : List Known

abbrev pub known_fact : Known → Fact
known_fact Unknown = Varying
known_fact (Num n) = One (Num n)
known_fact Null = One Null

-- A parameter has its known value, or varies.
abbrev pub param_fact : Option Known → Fact
param_fact None = Varying
param_fact (Some known) = known_fact known

-- A number or null is itself; every other constant varies.
abbrev pub const_fact : Const → Fact
const_fact (const.Int n) = One (Num n)
const_fact const.Null = One Null
const_fact (const.Addr place offset) = Varying
const_fact const.Undef = Varying
const_fact const.Poison = Varying
const_fact const.Zero = Varying
const_fact (const.Text bytes) = Varying
const_fact (const.Many' shape parts) = Varying

abbrev pub operand_fact : Setting → List Fact → Operand → Fact
operand_fact setting facts (operand.Param k) = param_fact (slice_get setting.known k)
operand_fact setting facts (operand.Reg k) = fact_of facts k
operand_fact setting facts (operand.Const constant) = const_fact constant
