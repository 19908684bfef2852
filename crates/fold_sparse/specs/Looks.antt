-- What a solver looks at: each instruction with a result, each terminator, and each entry of a phi by itself.
use Rattle.std.specs.Prelude.{◌≡◌, ℕ, Bool, suc, ◌+◌, List, [], ◌∷◌, ◌++◌, Option, None, Some, length, map, slice_get}
use Rattle.std.specs.List.{filter_map}
use Rattle.ir_types.specs.declared.scalar.Scalar.{Scalar}
use Rattle.ir_syntax.specs.declared.constant.Operand.{Operand}
use Rattle.ir_syntax.specs.declared.constant.Operand.TheVariants as operand
use Rattle.ir_syntax.specs.declared.body.Inst.{Inst}
use Rattle.ir_syntax.specs.declared.body.Phi.{Phi}
use Rattle.ir_syntax.specs.declared.body.Block.{Block}
use Rattle.ir_syntax.specs.Operands.{operands, term_operands}
use Rattle.ir_syntax.specs.Results.{result_type, block_results}
use Rattle.ir_syntax.specs.Definite.{has_result}
use Rattle.fold_facts.specs.Assigned.{Assigned, enters, is_reached}
use Rattle.fold_facts.specs.Facts.{IsBelow}
use Rattle.fold_facts.specs.Assigned.{fact_of}
use Rattle.fold_facts.specs.Operands.{Setting, operand_fact}
use Rattle.fold_facts.specs.Instructions.{inst_fact}
use Rattle.fold_facts.specs.Closed.{AreEdgesClosed}
use Rattle.fold_facts.specs.Places.{inst_at, entry_at}
use Rattle.fold_sparse.specs.declared.look.Look.{Look}
use Rattle.fold_sparse.specs.declared.look.Look.TheVariants.{Entry, Value, Term}

-- ---- all of them, in the order of the text

-- the entries of a phi of the block `at`, from the one at place j on
abbrev pub entry_looks : ℕ → ℕ → ℕ → ℕ → List (Operand × ℕ) → List Look
entry_looks at phi j number [] = []
entry_looks at phi j number (entry ∷ more) = Entry at entry.1 phi j number ∷ entry_looks at phi (suc j) number more

-- the phis of the block from the one at place k on
abbrev pub phi_looks : ℕ → ℕ → ℕ → List Phi → List Look
phi_looks at k number [] = []
phi_looks at k number (phi ∷ more) = entry_looks at k 0 number phi.entries ++ phi_looks at (suc k) (suc number) more

abbrev pub value_look : ℕ → ℕ → ℕ → Option Scalar → List Look
value_look at k number None = []
value_look at k number (Some ty) = Value at k number ∷ []

-- its other instructions from the one at place k on
abbrev pub inst_looks : ℕ → ℕ → ℕ → List Inst → List Look
inst_looks at k number [] = []
inst_looks at k number (inst ∷ more) = value_look at k number (result_type inst) ++ inst_looks at (suc k) (number + has_result (result_type inst)) more

-- a block whose results begin with a number
abbrev pub block_looks : ℕ → ℕ → Block → List Look
block_looks at first block = phi_looks at 0 first block.phis ++ (inst_looks at 0 (first + length block.phis) block.insts ++ Term at ∷ [])

-- the blocks from the one at a place on
abbrev pub looks_from : ℕ → ℕ → List Block → List Look
looks_from at first [] = []
looks_from at first (block ∷ more) = block_looks at first block ++ looks_from (suc at) (first + length (block_results block)) more

abbrev pub looks_of : List Block → List Look
looks_of blocks = looks_from 0 0 blocks

-- ---- their operands

abbrev pub inst_operands : Option Inst → List Operand
inst_operands None = []
inst_operands (Some inst) = operands inst

abbrev pub entry_operands : Option (Operand × ℕ) → List Operand
entry_operands None = []
entry_operands (Some entry) = entry.0 ∷ []

abbrev pub block_term_operands : Option Block → List Operand
block_term_operands None = []
block_term_operands (Some block) = term_operands block.term

abbrev pub look_operands : List Block → Look → List Operand
look_operands blocks (Entry at from phi entry number) = entry_operands (entry_at blocks at phi entry)
look_operands blocks (Value at k number) = inst_operands (inst_at blocks at k)
look_operands blocks (Term at) = block_term_operands (slice_get blocks at)

abbrev pub register : Operand → Option ℕ
register (operand.Param k) = None
register (operand.Reg k) = Some k
register (operand.Const constant) = None

-- the results among them
abbrev pub registers : List Operand → List ℕ
registers operands = filter_map register operands

-- ---- pairs of a key and the number of a look, counted from a number on

abbrev pub paired : ℕ → List ℕ → List (ℕ × ℕ)
paired l keys = map (λ key. (key, l)) keys

abbrev pub keyed_from : (Look → List ℕ) → ℕ → List Look → List (ℕ × ℕ)
keyed_from keys l [] = []
keyed_from keys l (look ∷ more) = paired l (keys look) ++ keyed_from keys (suc l) more

-- each with the results that it reads
abbrev pub uses_from : List Block → ℕ → List Look → List (ℕ × ℕ)
uses_from blocks l looks = keyed_from (λ look. registers (look_operands blocks look)) l looks

-- an entry with the block that its edge comes from
abbrev pub source : Look → List ℕ
source (Entry at from phi entry number) = from ∷ []
source (Value at k number) = []
source (Term at) = []

abbrev pub sources_from : ℕ → List Look → List (ℕ × ℕ)
sources_from l looks = keyed_from source l looks

-- each other with its block
abbrev pub home : Look → List ℕ
home (Entry at from phi entry number) = []
home (Value at k number) = at ∷ []
home (Term at) = at ∷ []

abbrev pub homes_from : ℕ → List Look → List (ℕ × ℕ)
homes_from l looks = keyed_from home l looks

-- ---- what they ask for

-- Its edge is reached, or its block.
abbrev pub is_active : Assigned → Look → Bool
is_active a (Entry at from phi entry number) = enters a from at
is_active a (Value at k number) = is_reached a at
is_active a (Term at) = is_reached a at

-- The assignment has what it asks for, as if it were active.
abbrev pub IsMet : Setting → List Block → Assigned → Look → Type 0
IsMet setting blocks a (Entry at from phi j number) = (entry : Operand × ℕ) → entry_at blocks at phi j ≡ Some entry → IsBelow (operand_fact setting a.facts entry.0) (fact_of a.facts number)
IsMet setting blocks a (Value at k number) = (inst : Inst) → inst_at blocks at k ≡ Some inst → IsBelow (inst_fact setting a.facts inst) (fact_of a.facts number)
IsMet setting blocks a (Term at) = (block : Block) → slice_get blocks at ≡ Some block → AreEdgesClosed setting a at block
