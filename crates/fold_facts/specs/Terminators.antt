-- Which edges a terminator asks for.
use Rattle.std.specs.Prelude.{◌==◌, ℕ, suc, Bool, true, false, List, [], ◌∷◌, Option, None, Some, if◌then◌else◌}
use Rattle.std.specs.List.{position_from}
use Rattle.ir_types.specs.declared.scalar.Known.TheVariants.{Unknown, Num, Null}
use Rattle.ir_syntax.specs.declared.body.Term.{Term}
use Rattle.ir_syntax.specs.declared.body.Term.TheVariants as term
use Rattle.fold_facts.specs.declared.fact.Fact.{Fact}
use Rattle.fold_facts.specs.declared.fact.Fact.TheVariants.{Unreached, One, Varying}
use Rattle.fold_facts.specs.declared.said.Edges.{Edges}
use Rattle.fold_facts.specs.declared.said.Edges.TheVariants.{Nothing, Only, All}
use Rattle.fold_facts.specs.Operands.{Setting, operand_fact}

-- the edge at the place is asked for
abbrev pub asks : Edges → ℕ → Bool
asks Nothing k = false
asks (Only chosen) k = k == chosen
asks All k = true

-- None is asked for where the operand is unreached, the chosen one where it is known, and all where it varies or is a
-- constant without a number.
abbrev pub edges_by : (ℕ → Edges) → Fact → Edges
edges_by chosen Unreached = Nothing
edges_by chosen (One Unknown) = All
edges_by chosen (One (Num n)) = chosen n
edges_by chosen (One Null) = All
edges_by chosen Varying = All

abbrev pub branch_edge : ℕ → Edges
branch_edge n = if n == 0 then Only 1 else Only 0

-- the place of the case for a number
abbrev pub case_for : ℕ → List (ℕ × ℕ) → Option ℕ
case_for n cases = position_from (λ case. case.0 == n) 0 cases

-- the edge of the case, or the first one, which is the default's
abbrev pub case_edge : Option ℕ → Edges
case_edge None = Only 0
case_edge (Some k) = Only (suc k)

-- A switch without cases has one edge, so to ask for it is to ask for all.
abbrev pub switch_edge : List (ℕ × ℕ) → ℕ → Edges
switch_edge [] n = All
switch_edge (case ∷ more) n = case_edge (case_for n (case ∷ more))

abbrev pub term_edges : Setting → List Fact → Term → Edges
term_edges setting facts term.RetVoid = Nothing
term_edges setting facts (term.Ret ty value) = Nothing
term_edges setting facts (term.Br to) = All
term_edges setting facts (term.CondBr cond one other) = edges_by branch_edge (operand_fact setting facts cond)
term_edges setting facts (term.Switch ty value default cases) = edges_by (switch_edge cases) (operand_fact setting facts value)
term_edges setting facts term.Unreachable = Nothing
