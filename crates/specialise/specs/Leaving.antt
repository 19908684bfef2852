-- What is left of a body: which blocks, which results, and which entries of phis.
use Rattle.std.specs.Prelude.{◌==◌, ℕ, suc, ◌&&◌, Bool, List, [], ◌∷◌, ◌++◌, drop, take, length, map}
use Rattle.std.specs.List.{filter}
use Rattle.ir_types.specs.declared.scalar.Known.{Known}
use Rattle.ir_syntax.specs.declared.body.Block.{Block}
use Rattle.ir_syntax.specs.Results.{block_results}
use Rattle.fold_facts.specs.declared.fact.Fact.{Fact}
use Rattle.fold_facts.specs.Assigned.{Assigned, edges_from, is_reached}
use Rattle.fold_facts.specs.Operands.{Setting}
use Rattle.demands.specs.Names.{is_unknown}
use Rattle.interface.specs.Masks.{is_chosen}
use Rattle.interface.specs.Summaries.{value_of, reached}

-- How a body is left: what is known of parameters and results, which blocks are reached, which results stay, and whether the
-- j-th edge from one block to another is reached.
pub record Leaving : Type 0 where
  pub setting : Setting
  pub facts : List Fact
  pub reached : List Bool
  pub kept : List Bool
  pub edge : ℕ → ℕ → ℕ → Bool

-- ---- results

-- a result without a known value
abbrev pub is_open : Fact → Bool
is_open fact = is_unknown (value_of fact)

-- of the results of these blocks, the facts of which these are: those of reached blocks stay that have no known value
abbrev pub kept_from : Assigned → ℕ → List Fact → List Block → List Bool
kept_from a place facts [] = []
kept_from a place facts (block ∷ more) =
    map (λ fact. is_reached a place && is_open fact) (take (length (block_results block)) facts) ++ kept_from a (suc place) (drop (length (block_results block)) facts) more

abbrev pub kept : Assigned → List Block → List Bool
kept a blocks = kept_from a 0 a.facts blocks

-- ---- edges

-- of the edges from the one block to the other, in their order, which are reached
abbrev pub edges_to : Assigned → ℕ → ℕ → List Bool
edges_to a from to = map (λ edge. edge.reached) (filter (λ edge. edge.to == to) (edges_from a from))

abbrev pub leaving : List Known → List Block → Assigned → Leaving
leaving known blocks a = record {
  setting = record { known = known };
  facts = a.facts;
  reached = reached a blocks;
  kept = kept a blocks;
  edge = λ from to j. is_chosen (edges_to a from to) j;
}
