-- The edge that a terminator takes is one that folding asks for.
use Rattle.std.proofs.Common.{◌≡◌, ◌∙◌, ◌⊎◌, inl, inr, ℕ, suc, ◌+◌, ◌==◌, Bool, true, false, IsTrue, List, [], ◌∷◌, map, slice_get, Some, None, refl, sym, ap, subst, arith, if◌then◌else◌}
use Rattle.std.specs.List.{position_from}
use Rattle.std.proofs.lemmas.Bool.{eq-eqb}
use Rattle.ir_types.specs.declared.scalar.Known.TheVariants.{Unknown, Num, Null}
use Rattle.ir_syntax.specs.declared.body.Term.{Term}
use Rattle.ir_syntax.specs.Edges.{successors}
use Rattle.ir_syntax.specs.Programs.{ProgramData}
use Rattle.block_memory.specs.declared.value.Val.TheVariants as val
use Rattle.ir_steps.specs.States.{Frame}
use Rattle.ir_steps.specs.Branches as branches
use Rattle.fold_facts.specs.declared.fact.Fact.{Fact}
use Rattle.fold_facts.specs.declared.fact.Fact.TheVariants.{Unreached, One, Varying}
use Rattle.fold_facts.specs.declared.said.Edges.{Edges}
use Rattle.fold_facts.specs.declared.said.Edges.TheVariants.{Only}
use Rattle.fold_facts.specs.Assigned.{IsReachedEdge}
use Rattle.fold_facts.specs.Terminators.{asks, edges_by, branch_edge, case_for, case_edge, switch_edge, term_edges}
use Rattle.known_values.specs.Suits.{Suits}
use Rattle.known_values.specs.Readings.{Reading, IsReading, setting_of}
use Rattle.known_values.specs.Frames.{IsFrameOf}

-- One of the edges goes there, and is asked for.
abbrev pub IsAsked : Edges → List ℕ → ℕ → Type 0
IsAsked asked tos to = (k : ℕ) × (slice_get tos k ≡ Some to) × IsTrue (asks asked k)

-- A number that suits the fact of the operand goes where it is asked to.
by_number : (chosen : ℕ → Edges) (fact : Fact) (n : ℕ) (tos : List ℕ) (to : ℕ) → Suits fact (val.Num n) → IsAsked (chosen n) tos to → IsAsked (edges_by chosen fact) tos to
by_number chosen Unreached n tos to s h = absurd s
by_number chosen (One Unknown) n tos to s h = (h.0, h.1, refl)
by_number chosen (One (Num m)) n tos to s h = subst (λ k. IsAsked (chosen k) tos to) same h
  where
    same : n ≡ m
    same = cc
by_number chosen (One Null) n tos to s h = (h.0, h.1, refl)
by_number chosen Varying n tos to s h = (h.0, h.1, refl)

pub branch_asked : (fact : Fact) (n one other : ℕ) → Suits fact (val.Num n) → IsAsked (edges_by branch_edge fact) (one ∷ other ∷ []) (if n == 0 then other else one)
branch_asked fact n one other s = by_number branch_edge fact n (one ∷ other ∷ []) (if n == 0 then other else one) s (of (n == 0))
  where
    of : (zero_is : Bool) → IsAsked (if zero_is then Only 1 else Only 0) (one ∷ other ∷ []) (if zero_is then other else one)
    of true = (1, refl, refl)
    of false = (0, refl, refl)

-- The first case for the number, where there is one, and else the default.
abbrev IsCaseFrom : ℕ → List (ℕ × ℕ) → ℕ → ℕ → Type 0
IsCaseFrom n cases default i =
    ((position_from (λ case. case.0 == n) i cases ≡ None) × (branches.case_for n cases default ≡ default)) ⊎
    ((k : ℕ) × (position_from (λ case. case.0 == n) i cases ≡ Some (i + k)) × (slice_get (map (λ case. case.1) cases) k ≡ Some (branches.case_for n cases default)))

case_from : (n : ℕ) (cases : List (ℕ × ℕ)) (default i : ℕ) → IsCaseFrom n cases default i
case_from n [] default i = inl (refl, refl)
case_from n (c ∷ more) default i = of (c.0 == n) refl (case_from n more default (i + 1))
  where
    none_on : (m : ℕ) → m ≡ m + 0
    none_on m = omega arith

    one_on : (m k : ℕ) → (m + 1) + k ≡ m + suc k
    one_on m k = omega arith

    of : (b : Bool) → (c.0 == n) ≡ b → IsCaseFrom n more default (i + 1) → IsCaseFrom n (c ∷ more) default i
    of true e rest = inr (
      0,
      ap (λ b. if b then Some i else position_from (λ (case : ℕ × ℕ). case.0 == n) (i + 1) more) e ∙ ap Some (none_on i),
      sym (ap (λ b. Some (if b then c.1 else branches.case_for n more default)) e),
    )
    of false e (inl none) = inl (
      ap (λ b. if b then Some i else position_from (λ (case : ℕ × ℕ). case.0 == n) (i + 1) more) e ∙ none.0,
      ap (λ b. if b then c.1 else branches.case_for n more default) e ∙ none.1,
    )
    of false e (inr at) = inr (
      suc at.0,
      ap (λ b. if b then Some i else position_from (λ (case : ℕ × ℕ). case.0 == n) (i + 1) more) e ∙ at.1 ∙ ap Some (one_on i at.0),
      at.2 ∙ sym (ap (λ b. Some (if b then c.1 else branches.case_for n more default)) e),
    )

abbrev case_tos : ℕ → List (ℕ × ℕ) → List ℕ
case_tos default cases = default ∷ map (λ case. case.1) cases

switch_at : (n default : ℕ) (cases : List (ℕ × ℕ)) → IsAsked (switch_edge cases n) (case_tos default cases) (branches.case_for n cases default)
switch_at n default [] = (0, refl, refl)
switch_at n default (c ∷ more) = of (case_from n (c ∷ more) default 0)
  where
    none_on : (m : ℕ) → 0 + m ≡ m
    none_on m = omega arith

    to : ℕ
    to = branches.case_for n (c ∷ more) default

    of : IsCaseFrom n (c ∷ more) default 0 → IsAsked (case_edge (case_for n (c ∷ more))) (case_tos default (c ∷ more)) to
    of (inl none) = subst (λ o. IsAsked (case_edge o) (case_tos default (c ∷ more)) to) (sym none.0) (0, ap Some (sym none.1), refl)
    of (inr at) =
        subst (λ o. IsAsked (case_edge o) (case_tos default (c ∷ more)) to) (sym (at.1 ∙ ap Some (none_on at.0))) (suc at.0, at.2, eq-eqb (suc at.0) (suc at.0) refl)

pub switch_asked : (fact : Fact) (n default : ℕ) (cases : List (ℕ × ℕ)) → Suits fact (val.Num n) → IsAsked (edges_by (switch_edge cases) fact) (case_tos default cases) (branches.case_for n cases default)
switch_asked fact n default cases s = by_number (switch_edge cases) fact n (case_tos default cases) (branches.case_for n cases default) s (switch_at n default cases)

-- An edge that the terminator at hand asks for is reached.
pub edge_reached : (p : ProgramData) (r : Reading) (f : Frame) (t : Term) (to : ℕ) → IsReading p r → IsFrameOf r f → f.last ≡ t → IsAsked (term_edges (setting_of r) r.assigned.facts t) (successors t) to
    → (k : ℕ) × IsReachedEdge r.assigned f.block k to
edge_reached p r f t to reading h e asked =
    let here = subst (λ x. IsAsked (term_edges (setting_of r) r.assigned.facts x) (successors x) to) (sym e ∙ h.last) asked in
    (here.0, (reading.left.closed f.block h.block h.at h.reached).edges here.0 to here.1 here.2)
