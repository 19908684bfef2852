-- The facts of a block's results, each from those before it.
use Rattle.std.specs.Prelude.{List, [], ◌∷◌, ◌++◌}
use Rattle.ir_types.specs.declared.scalar.Known.{Known}
use Rattle.ir_syntax.specs.declared.body.Inst.{Inst}
use Rattle.straight_plan.specs.declared.fact.Fact.{Fact}
use Rattle.straight_plan.specs.Folding.{said}

-- with those of more instructions
abbrev pub facts_from : List Known → List Fact → List Inst → List Fact
facts_from pattern before [] = before
facts_from pattern before (i ∷ is) = facts_from pattern (before ++ said pattern before i ∷ []) is

abbrev pub facts_of : List Known → List Inst → List Fact
facts_of pattern insts = facts_from pattern [] insts
