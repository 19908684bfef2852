-- What is of a function: what may be known of its parameters, and the assignments to its results and edges.
use Rattle.std.specs.Prelude.{◌≡◌, Bool, false, List, IsTrue, map, flat_map}
use Rattle.std.specs.List.{AllZip}
use Rattle.ir_types.specs.declared.scalar.Scalar.{Scalar}
use Rattle.ir_types.specs.declared.scalar.Known.{Known}
use Rattle.ir_types.specs.declared.scalar.Known.TheVariants.{Unknown, Num, Null}
use Rattle.ir_types.specs.Scalars.{is_number_of}
use Rattle.ir_syntax.specs.declared.body.Block.{Block}
use Rattle.ir_syntax.specs.declared.item.Func.{Func}
use Rattle.ir_syntax.specs.Suits.{is_pointer}
use Rattle.ir_syntax.specs.Edges.{successors}
use Rattle.ir_syntax.specs.Results.{block_results}
use Rattle.fold_facts.specs.declared.fact.Fact.{Fact}
use Rattle.fold_facts.specs.declared.fact.Fact.TheVariants.{Unreached, One, Varying}
use Rattle.fold_facts.specs.Assigned.{Assigned}
use Rattle.fold_facts.specs.Operands.{known_fact}
use Rattle.fold_facts.specs.Places.{blocks_of}

-- a number of the integer type, or null of the pointer's
abbrev pub is_value_of : Scalar → Known → Bool
is_value_of ty Unknown = false
is_value_of ty (Num n) = is_number_of ty n
is_value_of ty Null = is_pointer ty

-- A known value is of the type.
abbrev pub IsFactOf : Scalar → Fact → Type 0
IsFactOf ty Unreached = Unit {0}
IsFactOf ty (One known) = IsTrue (is_value_of ty known)
IsFactOf ty Varying = Unit {0}

-- One item for each parameter: unknown, or a value of its type.
abbrev pub AreKnownOf : Func → List Known → Type 0
AreKnownOf func known = AllZip (λ param item. IsFactOf param.ty (known_fact item)) func.params known

abbrev pub results_in : List Block → List Scalar
results_in blocks = flat_map block_results blocks

pub record IsAssignmentIn (blocks : List Block) (a : Assigned) : Type 0 where
  -- one fact for each result, of its type
  pub facts : AllZip IsFactOf (results_in blocks) a.facts
  -- the edges of the blocks
  pub edges : map (λ edges. map (λ edge. edge.to) edges) a.edges ≡ map (λ block. successors block.term) blocks

abbrev pub IsAssignmentOf : Func → Assigned → Type 0
IsAssignmentOf func a = IsAssignmentIn (blocks_of func) a
