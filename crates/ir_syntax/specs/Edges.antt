-- The edges of a body: where each block goes.
use Rattle.std.specs.Prelude.{ℕ, ◌==◌, List, [], ◌∷◌, Option, None, Some, map, count_by, slice_get, Contains}
use Rattle.ir_syntax.specs.declared.body.Term.{Term}
use Rattle.ir_syntax.specs.declared.body.Term.TheVariants.{RetVoid, Ret, Br, CondBr, Switch, Unreachable}
use Rattle.ir_syntax.specs.declared.body.Block.{Block}

-- the blocks that a terminator goes to, in the order in which it names them; the default of a switch comes first
abbrev pub successors : Term → List ℕ
successors RetVoid = []
successors (Ret ty value) = []
successors (Br to) = to ∷ []
successors (CondBr cond one other) = one ∷ other ∷ []
successors (Switch ty value default cases) = default ∷ map (λ case. case.1) cases
successors Unreachable = []

abbrev pub successors_of : Option Block → List ℕ
successors_of None = []
successors_of (Some block) = successors block.term

-- the block at one place goes to the block at the other
abbrev pub Leads : List Block → ℕ → ℕ → Type 0
Leads blocks from to = Contains (successors_of (slice_get blocks from)) to

-- by how many edges
abbrev pub edges : List Block → ℕ → ℕ → ℕ
edges blocks from to = count_by (λ place. place == to) (successors_of (slice_get blocks from))
