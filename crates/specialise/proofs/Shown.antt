-- What the code keeps of how a body is left is how it is left.
use Rattle.std.proofs.Common.{◌≡◌, ◌∙◌, ℕ, Bool, List, ap}
use Rattle.std.proofs.Math.Path.{fun_ext}
use Rattle.ir_types.specs.declared.scalar.Known.{Known}
use Rattle.ir_syntax.specs.declared.body.Block.{Block}
use Rattle.fold_facts.specs.declared.fact.Fact.{Fact}
use Rattle.fold_facts.specs.Assigned.{Assigned}
use Rattle.interface.specs.Masks.{is_chosen}
use Rattle.interface.specs.Summaries.{reached}
use Rattle.specialise.specs.Leaving.{Leaving, kept, edges_to, leaving}

abbrev pub made : List Known → List Fact → List Bool → List Bool → (ℕ → ℕ → ℕ → Bool) → Leaving
made known facts mask stays edge = record { setting = record { known = known }; facts = facts; reached = mask; kept = stays; edge = edge }

pub leaving_is : (known : List Known) (blocks : List Block) (a : Assigned) (facts : List Fact) (mask stays : List Bool) (edge : ℕ → ℕ → ℕ → Bool) → facts ≡ a.facts → mask ≡ reached a blocks → stays ≡ kept a blocks
    → ((from to j : ℕ) → edge from to j ≡ is_chosen (edges_to a from to) j) → made known facts mask stays edge ≡ leaving known blocks a
leaving_is known blocks a facts mask stays edge one other third fourth =
    ap (λ f. made known f mask stays edge) one ∙ ap (λ m. made known a.facts m stays edge) other ∙ ap (λ s. made known a.facts (reached a blocks) s edge) third
    ∙ ap (made known a.facts (reached a blocks) (kept a blocks)) (fun_ext (λ from. fun_ext (λ to. fun_ext (λ j. fourth from to j))))
