-- Where a block goes that is left: its edges are those that its terminator asks for.
use Rattle.std.proofs.Common.{◌≡◌, ◌∙◌, ℕ, zero, suc, ◌+◌, ◌<◌, ◌≤◌, Bool, true, false, cond, List, [], ◌∷◌, ◌++◌, Option, None, Some, map, refl, ap, sym, arith}
use Rattle.std.specs.Prelude.{◌==◌, slice_get, if◌then◌else◌}
use Rattle.std.specs.List.{position_from}
use Rattle.std.proofs.lemmas.Bool.{eqb-true, eq-eqb}
use Rattle.std.proofs.lemmas.Option.{none-some}
use Rattle.ir_types.specs.declared.scalar.Scalar.{Scalar}
use Rattle.ir_types.specs.declared.scalar.Known.TheVariants.{Unknown, Num, Null}
use Rattle.ir_syntax.specs.declared.constant.Operand.{Operand}
use Rattle.ir_syntax.specs.declared.body.Term.{Term}
use Rattle.ir_syntax.specs.declared.body.Term.TheVariants as term
use Rattle.ir_syntax.specs.Edges.{successors}
use Rattle.ir_syntax.specs.Operands.{term_operands}
use Rattle.fold_facts.specs.declared.fact.Fact.{Fact}
use Rattle.fold_facts.specs.declared.fact.Fact.TheVariants.{Unreached, One, Varying}
use Rattle.fold_facts.specs.declared.said.Edges.{Edges}
use Rattle.fold_facts.specs.declared.said.Edges.TheVariants.{Only, All}
use Rattle.fold_facts.specs.Operands.{operand_fact}
use Rattle.fold_facts.specs.Terminators.{asks, edges_by, branch_edge, case_for, case_edge, switch_edge, term_edges}
use Rattle.fold_facts.proofs.Valued.{IsValued}
use Rattle.interface.specs.Masks.{rank}
use Rattle.interface.specs.Summaries.{value_of}
use Rattle.specialise.specs.Leaving.{Leaving}
use Rattle.specialise.specs.Residual.{number_in, case_block, left_branch, left_switch, left_term}
use Rattle.residual_laws.proofs.Every.{Every}

-- those blocks that are asked for, the first of which stands at a place
abbrev pub asked_from : Edges → ℕ → List ℕ → List ℕ
asked_from e n [] = []
asked_from e n (x ∷ xs) = (if asks e n then x ∷ [] else []) ++ asked_from e (suc n) xs

pub all_asked : (n : ℕ) (xs : List ℕ) → asked_from All n xs ≡ xs
all_asked n [] = refl
all_asked n (x ∷ xs) = ap (λ l. x ∷ l) (all_asked (suc n) xs)

pub apart : (m n : ℕ) → (m ≡ n → ⊥) → (m == n) ≡ false
apart m n other = by (m == n) refl
  where
    by : (b : Bool) → (m == n) ≡ b → (m == n) ≡ false
    by true e = absurd (other (eqb-true m n e))
    by false e = e

asked_past : (k n : ℕ) (xs : List ℕ) → k < n → asked_from (Only k) n xs ≡ []
asked_past k n [] less = refl
asked_past k n (x ∷ xs) less = ap (λ b. (if b then x ∷ [] else []) ++ asked_from (Only k) (suc n) xs) (apart n k (λ e. omega (arith, e, less))) ∙ asked_past k (suc n) xs (omega (arith, less))

-- ---- switches

-- What the place of a case says of the block that is gone to, where cases are counted from a number.
abbrev Picks : ℕ → ℕ → List ℕ → ℕ → Option ℕ → Type 0
Picks default i blocks to None = to ≡ default
Picks default i blocks to (Some k) = (i ≤ k) × (asked_from (Only (suc k)) (suc i) blocks ≡ to ∷ [])

picks : (n default i : ℕ) (cases : List (ℕ × ℕ)) → Picks default i (map (λ case. case.1) cases) (case_block n default cases) (position_from (λ case. case.0 == n) i cases)
picks n default i [] = refl
picks n default i (case ∷ more) = by (case.0 == n) (picks n default (i + 1) more)
  where
    tos : List ℕ
    tos = map (λ (c : ℕ × ℕ). c.1) more

    found : (to k : ℕ) → i + 1 ≤ k → asked_from (Only (suc k)) (suc (i + 1)) tos ≡ to ∷ [] → (if suc i == suc k then case.1 ∷ [] else []) ++ asked_from (Only (suc k)) (suc (suc i)) tos ≡ to ∷ []
    found to k low h =
        let one_on : suc (suc i) ≡ suc (i + 1) = omega arith in
        ap (λ b. (if b then case.1 ∷ [] else []) ++ asked_from (Only (suc k)) (suc (suc i)) tos) (apart (suc i) (suc k) (λ e. omega (arith, e, low)))
        ∙ ap (λ m. asked_from (Only (suc k)) m tos) one_on ∙ h

    first : (if suc i == suc i then case.1 ∷ [] else []) ++ asked_from (Only (suc i)) (suc (suc i)) tos ≡ case.1 ∷ []
    first = ap (λ b. (if b then case.1 ∷ [] else []) ++ asked_from (Only (suc i)) (suc (suc i)) tos) (eq-eqb (suc i) (suc i) refl)
        ∙ ap (λ l. case.1 ∷ l) (asked_past (suc i) (suc (suc i)) tos (omega arith))

    rest : (to : ℕ) (o : Option ℕ) → Picks default (i + 1) tos to o → Picks default i (case.1 ∷ tos) to o
    rest to None h = h
    rest to (Some k) h = (omega (arith, h.0), found to k h.0 h.1)

    by : (b : Bool) → Picks default (i + 1) tos (case_block n default more) (position_from (λ c. c.0 == n) (i + 1) more)
        → Picks default i (case.1 ∷ tos) (if b then case.1 else case_block n default more) (cond b (Some i) (position_from (λ c. c.0 == n) (i + 1) more))
    by true h = (omega arith, first)
    by false h = rest (case_block n default more) (position_from (λ c. c.0 == n) (i + 1) more) h

picked : (n default : ℕ) (cases : List (ℕ × ℕ)) → asked_from (switch_edge cases n) 0 (default ∷ map (λ case. case.1) cases) ≡ case_block n default cases ∷ []
picked n default [] = refl
picked n default (case ∷ more) = by (case_for n (case ∷ more)) (picks n default 0 (case ∷ more))
  where
    tos : List ℕ
    tos = map (λ (c : ℕ × ℕ). c.1) (case ∷ more)

    by : (o : Option ℕ) → Picks default 0 tos (case_block n default (case ∷ more)) o → asked_from (case_edge o) 0 (default ∷ tos) ≡ case_block n default (case ∷ more) ∷ []
    by None h = ap (λ l. default ∷ l) (asked_past 0 1 tos (omega arith)) ∙ ap (λ to. to ∷ []) (sym h)
    by (Some k) h = ap (λ b. (if b then default ∷ [] else []) ++ asked_from (Only (suc k)) 1 tos) (apart 0 (suc k) (λ e. omega (arith, e))) ∙ h.1

-- ---- terminators

moved_cases : (f : ℕ → ℕ) (cases : List (ℕ × ℕ)) → map (λ (c : ℕ × ℕ). c.1) (map (λ (c : ℕ × ℕ). (c.0, f c.1)) cases) ≡ map f (map (λ (c : ℕ × ℕ). c.1) cases)
moved_cases f [] = refl
moved_cases f (case ∷ more) = ap (λ l. f case.1 ∷ l) (moved_cases f more)

branch_goes : (w : Leaving) (o : Operand) (one other : ℕ) (f : Fact) → IsValued f
    → successors (left_branch w (number_in (value_of f)) o one other) ≡ map (rank w.reached) (asked_from (edges_by branch_edge f) 0 (one ∷ other ∷ []))
branch_goes w o one other Unreached v = absurd v
branch_goes w o one other (One Unknown) v = refl
branch_goes w o one other (One (Num n)) v = by (n == 0)
  where
    by : (b : Bool) → rank w.reached (if b then other else one) ∷ [] ≡ map (rank w.reached) (asked_from (if b then Only 1 else Only 0) 0 (one ∷ other ∷ []))
    by true = refl
    by false = refl
branch_goes w o one other (One Null) v = refl
branch_goes w o one other Varying v = refl

switch_goes : (w : Leaving) (ty : Scalar) (o : Operand) (default : ℕ) (cases : List (ℕ × ℕ)) (f : Fact) → IsValued f
    → successors (left_switch w (number_in (value_of f)) ty o default cases) ≡ map (rank w.reached) (asked_from (edges_by (switch_edge cases) f) 0 (default ∷ map (λ case. case.1) cases))
switch_goes w ty o default cases f v = by f v
  where
    all : rank w.reached default ∷ map (λ (case : ℕ × ℕ). case.1) (map (λ (case : ℕ × ℕ). (case.0, rank w.reached case.1)) cases)
        ≡ map (rank w.reached) (asked_from All 0 (default ∷ map (λ (case : ℕ × ℕ). case.1) cases))
    all = ap (λ l. rank w.reached default ∷ l) (moved_cases (rank w.reached) cases) ∙ sym (ap (map (rank w.reached)) (all_asked 0 (default ∷ map (λ (case : ℕ × ℕ). case.1) cases)))

    by : (g : Fact) → IsValued g → successors (left_switch w (number_in (value_of g)) ty o default cases) ≡ map (rank w.reached) (asked_from (edges_by (switch_edge cases) g) 0 (default ∷ map (λ (case : ℕ × ℕ). case.1) cases))
    by Unreached h = absurd h
    by (One Unknown) h = all
    by (One (Num n)) h = sym (ap (map (rank w.reached)) (picked n default cases))
    by (One Null) h = all
    by Varying h = all

-- The operand has a fact.
abbrev pub HasFact : Leaving → Operand → Type 0
HasFact w o = IsValued (operand_fact w.setting w.facts o)

pub term_goes : (w : Leaving) (t : Term) → Every (HasFact w) (term_operands t) → successors (left_term w t) ≡ map (rank w.reached) (asked_from (term_edges w.setting w.facts t) 0 (successors t))
term_goes w term.RetVoid h = refl
term_goes w (term.Ret ty value) h = refl
term_goes w (term.Br to) h = refl
term_goes w (term.CondBr o one other) h = branch_goes w o one other (operand_fact w.setting w.facts o) h.0
term_goes w (term.Switch ty o default cases) h = switch_goes w ty o default cases (operand_fact w.setting w.facts o) h.0
term_goes w term.Unreachable h = refl

-- ---- which edge it is

pub record IsAsked (e : Edges) (n : ℕ) (tos : List ℕ) (to : ℕ) : Type 0 where
  pub at : ℕ
  pub goes : slice_get tos at ≡ Some to
  pub asked : asks e (n + at) ≡ true

pub asked_is : (e : Edges) (n : ℕ) (tos : List ℕ) (j to : ℕ) → slice_get (asked_from e n tos) j ≡ Some to → IsAsked e n tos to
asked_is e n [] j to is = absurd (none-some to is)
asked_is e n (x ∷ xs) j to is = by (asks e n) refl j is (λ i h. asked_is e (suc n) xs i to h)
  where
    later : IsAsked e (suc n) xs to → IsAsked e n (x ∷ xs) to
    later more =
        let one_on : n + suc more.at ≡ suc n + more.at = omega arith in
        record { at = suc more.at; goes = more.goes; asked = ap (asks e) one_on ∙ more.asked }

    by : (b : Bool) → asks e n ≡ b → (i : ℕ) → slice_get ((if b then x ∷ [] else []) ++ asked_from e (suc n) xs) i ≡ Some to → ((k : ℕ) → slice_get (asked_from e (suc n) xs) k ≡ Some to → IsAsked e (suc n) xs to) → IsAsked e n (x ∷ xs) to
    by true h zero g more =
        let none_on : n + 0 ≡ n = omega arith in
        record { at = 0; goes = g; asked = ap (asks e) none_on ∙ h }
    by true h (suc i) g more = later (more i g)
    by false h i g more = later (more i g)
