-- The fact of a result is raised to what a look says, and the looks that read it wait.
use Rattle.std.proofs.Common.{◌≡◌, ◌∙◌, ◌⊎◌, inl, inr, ℕ, zero, suc, ◌+◌, ◌<◌, ◌≤◌, ◌^◌, true, cond, List, [], ◌∷◌, ◌++◌, Option, None, Some, length, map, take, refl, sym, ap, subst, arith}
use Rattle.std.specs.Prelude.{slice_get, Contains, IsTrue, IsSome, is_some, All, option_map, option_and_then}
use Rattle.std.proofs.lemmas.Bool.{false≢true}
use Rattle.std.proofs.lemmas.Option.{none-some}
use Rattle.ir_types.specs.declared.scalar.Scalar.{Scalar}
use Rattle.ir_types.proofs.ListSteps.{All-at}
use Rattle.ir_syntax.specs.declared.constant.Operand.{Operand}
use Rattle.ir_syntax.specs.declared.body.Inst.{Inst}
use Rattle.ir_syntax.specs.declared.body.Phi.{Phi}
use Rattle.ir_syntax.specs.declared.body.Block.{Block}
use Rattle.ir_syntax.specs.Results.{result_type}
use Rattle.ir_syntax.specs.Definite.{first_result}
use Rattle.fold_facts.specs.declared.fact.Fact.{Fact}
use Rattle.fold_facts.specs.declared.fact.Fact.TheVariants.{Unreached}
use Rattle.fold_facts.specs.declared.said.Said.{Said}
use Rattle.fold_facts.specs.declared.said.Said.TheVariants as said
use Rattle.fold_facts.specs.declared.said.Edges.{Edges}
use Rattle.fold_facts.specs.declared.said.Edges.TheVariants.{Nothing}
use Rattle.fold_facts.specs.Facts.{IsBelow, join, join_all}
use Rattle.fold_facts.specs.Assigned.{Assigned, fact_of, enters, is_reached, IsAtMost}
use Rattle.fold_facts.specs.Operands.{Setting, operand_fact}
use Rattle.fold_facts.specs.Instructions.{inst_fact}
use Rattle.fold_facts.specs.Phis.{entry_fact, phi_fact}
use Rattle.fold_facts.specs.Terminators.{asks, term_edges}
use Rattle.fold_facts.specs.Closed.{inst_result}
use Rattle.fold_facts.specs.Places.{inst_at, entry_at}
use Rattle.fold_facts.specs.OfFunction.{IsAssignmentIn, results_in}
use Rattle.fold_facts.specs.Raising.{with_fact, Raises, SaysItsTypes, IsVisit}
use Rattle.fold_facts.proofs.Lists.{some_is, there, within}
use Rattle.fold_facts.proofs.Numbers.{result_in, phi_result, types, inst_typed}
use Rattle.fold_facts.proofs.Orders.{below_trans, join_left, join_right}
use Rattle.fold_facts.proofs.Raised.{IsSaid, raises_fact, raised_same, fact_same, room_falls}
use Rattle.fold_facts.proofs.Reaching.{entered, enters_rises, reached_when}
use Rattle.fold_facts.proofs.Rising.{operand_rises}
use Rattle.fold_facts.proofs.Visits.{inst_said, phi_there, closed_above, facts_long}
use Rattle.fold_sparse.specs.declared.look.Look.{Look}
use Rattle.fold_sparse.specs.declared.look.Look.TheVariants.{Entry, Value, Term}
use Rattle.fold_sparse.specs.declared.standing.Standing.{Standing}
use Rattle.fold_sparse.specs.Groups.{members}
use Rattle.fold_sparse.specs.Looks.{looks_of, is_active, IsMet, look_operands, registers, uses_from, entry_operands, inst_operands, block_term_operands}
use Rattle.fold_sparse.specs.Solving.{IsSolving, left, Pushes, Rises}
use Rattle.fold_sparse.proofs.Keys.{key_in_all, weight_falls}
use Rattle.fold_sparse.proofs.Opening.{in_none, in_cons, fewer}
use Rattle.fold_sparse.proofs.Edges.{active_rises}
use Rattle.fold_sparse.proofs.Places.{IsEntryLook, IsValueLook, looks_are}
use Rattle.fold_sparse.proofs.Unread.{in_or_not, operand_unread, inst_unread, term_unread}

abbrev Uses : List Block → ℕ → List ℕ
Uses blocks n = members (uses_from blocks 0 (looks_of blocks)) n

-- A look that doesn't read the result has what it asks for as before.
still_met : (setting : Setting) (blocks : List Block) (a : Assigned) (n : ℕ) (said : Fact) → IsAtMost a (with_fact a n said) → (look : Look) → (Contains (registers (look_operands blocks look)) n → ⊥)
    → IsMet setting blocks a look → IsMet setting blocks (with_fact a n said) look
still_met setting blocks a n said more (Entry at from phi j number) h met = λ entry is.
    let b = with_fact a n said in
    let same : operand_fact setting b.facts entry.0 ≡ operand_fact setting a.facts entry.0 = operand_unread setting a.facts n (join (fact_of a.facts n) said) entry.0 (λ c. h (subst (λ o. Contains (registers (entry_operands o)) n) (sym is) c)) in
    subst (λ f. IsBelow f (fact_of b.facts number)) (sym same) (below_trans (operand_fact setting a.facts entry.0) (fact_of a.facts number) (fact_of b.facts number) (met entry is) (more.facts number))
still_met setting blocks a n said more (Value at k number) h met = λ inst is.
    let b = with_fact a n said in
    let same : inst_fact setting b.facts inst ≡ inst_fact setting a.facts inst = inst_unread setting a.facts n (join (fact_of a.facts n) said) inst (λ c. h (subst (λ o. Contains (registers (inst_operands o)) n) (sym is) c)) in
    subst (λ f. IsBelow f (fact_of b.facts number)) (sym same) (below_trans (inst_fact setting a.facts inst) (fact_of a.facts number) (fact_of b.facts number) (met inst is) (more.facts number))
still_met setting blocks a n said more (Term at) h met = λ block is k to at_k asking.
    let same : term_edges setting (with_fact a n said).facts block.term ≡ term_edges setting a.facts block.term = term_unread setting a.facts n (join (fact_of a.facts n) said) block.term (λ c. h (subst (λ o. Contains (registers (block_term_operands o)) n) (sym is) c)) in
    met block is k to at_k (subst (λ e. IsTrue (asks e k)) same asking)

raise_solving : (setting : Setting) (blocks : List Block) (a : Assigned) (standing : List Standing) (queue : List ℕ) (l : ℕ) (look : Look) (n : ℕ) (ty : Scalar) (said : Fact)
    → IsSolving setting blocks a standing queue [] (l ∷ []) → slice_get (looks_of blocks) l ≡ Some look → Raises setting blocks a (with_fact a n said) true
    → ((Contains (registers (look_operands blocks look)) n → ⊥) → IsMet setting blocks (with_fact a n said) look)
    → IsSolving setting blocks (with_fact a n said) standing queue [] (Uses blocks n)
raise_solving setting blocks a standing queue l look n ty said s is raised own = record {
  fits = raised.fits;
  below = λ other closed. raised.within other closed (s.below other closed);
  long = s.long;
  opened = λ x other at. elim (s.opened x other at) [ inl un ↦ inl un | inr on ↦ inr (active_rises a (with_fact a n said) raised.above other on) ];
  seen = λ x other at on un. s.seen x other at (was_active other on) un;
  waits = s.waits;
  met = λ x other at idle. elim (in_or_not n (registers (look_operands blocks other))) [
    | inl reads ↦ inr (key_in_all (λ k. registers (look_operands blocks k)) (looks_of blocks) x other n at reads)
    | inr unread ↦ elim (s.met x other at idle) [
      | inl ok ↦ inl (still_met setting blocks a n said raised.above other unread ok)
      | inr here ↦ elim (in_cons l [] x here) [
        | inl same ↦
            let one : other ≡ look = some_is (sym at ∙ ap (slice_get (looks_of blocks)) same ∙ is) in
            inl (subst (IsMet setting blocks (with_fact a n said)) (sym one) (own (subst (λ k. Contains (registers (look_operands blocks k)) n → ⊥) one unread)))
        | inr none ↦ absurd (in_none x none)
      ]
    ]
  ];
}
  where
    was_active : (other : Look) → is_active (with_fact a n said) other ≡ true → is_active a other ≡ true
    was_active (Entry at from phi entry number) on = on
    was_active (Value at k number) on = on
    was_active (Term at) on = on

append_none : {A : Type 0} (xs : List A) → xs ++ [] ≡ xs
append_none [] = refl
append_none (x ∷ xs) = ap (λ l. x ∷ l) (append_none xs)

abbrev pub Looked : Setting → List Block → Assigned → Assigned → List Standing → List Standing → List ℕ → List ℕ → Type 0
Looked setting blocks a b standing next queue longer =
    IsSolving setting blocks b next longer [] [] × (left (uses_from blocks 0 (looks_of blocks)) b.facts next longer ≤ left (uses_from blocks 0 (looks_of blocks)) a.facts standing queue)

-- ---- what is said is raised

rises_done : (setting : Setting) (blocks : List Block) (a b : Assigned) (standing next : List Standing) (queue longer : List ℕ) (l : ℕ) (look : Look) (n : ℕ) (ty : Scalar) (said : Fact)
    → IsSolving setting blocks a standing queue [] (l ∷ []) → slice_get (looks_of blocks) l ≡ Some look → IsSaid setting blocks a n ty said
    → (IsBelow said (fact_of a.facts n) → IsMet setting blocks a look)
    → ((Contains (registers (look_operands blocks look)) n → ⊥) → IsMet setting blocks (with_fact a n said) look)
    → Rises blocks a b standing next queue longer n said → Looked setting blocks a b standing next queue longer
rises_done setting blocks a b standing next queue longer l look n ty said s is says low own (made, cases) = by cases
  where
    less : n < length a.facts
    less = omega (arith, within (results_in blocks) n ty says.there, facts_long blocks a s.fits)

    by : ((IsBelow said (fact_of a.facts n) × (next ≡ standing) × (longer ≡ queue)) ⊎ ((IsBelow said (fact_of a.facts n) → ⊥) × Pushes blocks b standing next queue longer (Uses blocks n))) → Looked setting blocks a b standing next queue longer
    by (inl (below, stands, waits)) =
        let old = there a.facts n less in
        let same : b ≡ a = made ∙ fact_same a n old.0 said old.1 below in
        subst (λ d. Looked setting blocks a d standing next queue longer) (sym same) (subst (λ d. Looked setting blocks a a standing d queue longer) (sym stands) (subst (λ d. Looked setting blocks a a standing standing queue d) (sym waits) (
          fewer setting blocks a standing queue [] [] [] (l ∷ []) (λ x other at on un c. c)
              (λ x other at idle c. elim (in_cons l [] x c) [
                | inl here ↦ inl (subst (IsMet setting blocks a) (some_is (sym is ∙ subst (λ m. slice_get (looks_of blocks) m ≡ Some other) here at)) (low below))
                | inr none ↦ inr none
              ]) s,
          omega arith,
        )))
    by (inr (above, pushes)) =
        let raised : Raises setting blocks a (with_fact a n said) true = raises_fact setting blocks a n said ty true s.fits says above in
        let now : IsSolving setting blocks b standing queue [] (Uses blocks n ++ []) =
        subst (λ d. IsSolving setting blocks d standing queue [] (Uses blocks n ++ [])) (sym made) (subst (IsSolving setting blocks (with_fact a n said) standing queue []) (sym (append_none (Uses blocks n)))
        (raise_solving setting blocks a standing queue l look n ty said s is raised own)) in
        let falls = weight_falls a.facts n (join (fact_of a.facts n) said) (uses_from blocks 0 (looks_of blocks)) less (room_falls (fact_of a.facts n) said above) in
        let facts : left (uses_from blocks 0 (looks_of blocks)) b.facts standing queue ≡ left (uses_from blocks 0 (looks_of blocks)) (with_fact a n said).facts standing queue =
        ap (λ (d : Assigned). left (uses_from blocks 0 (looks_of blocks)) d.facts standing queue) made in
        (pushes.goes setting [] [] now, omega (arith, pushes.left (uses_from blocks 0 (looks_of blocks)), falls, facts))

-- the fact of the result, once it is raised
raised_to : (a : Assigned) (n : ℕ) (said : Fact) → n < length a.facts → IsBelow said (fact_of (with_fact a n said).facts n)
raised_to a n said less =
    let old = there a.facts n less in
    subst (IsBelow said) (sym (raised_same a.facts n old.0 said old.1)) (join_right (fact_of a.facts n) said)

-- ---- an instruction

visit_of : (setting : Setting) (blocks : List Block) (a : Assigned) (at : ℕ) (block : Block) → slice_get blocks at ≡ Some block → IsAssignmentIn blocks a → is_reached a at ≡ true → length (results_in blocks) < 2 ^ 64
    → All (SaysItsTypes setting (results_in blocks)) blocks → IsVisit setting blocks a at (first_result blocks at) block
visit_of setting blocks a at block is fits reached few typed =
    record { there = is; numbered = refl; reached = reached; fits = fits; few = few; typed = All-at (SaysItsTypes setting (results_in blocks)) blocks at block typed is }

pub inst_of : (blocks : List Block) (at k : ℕ) (block : Block) (i : Inst) → slice_get blocks at ≡ Some block → slice_get block.insts k ≡ Some i → inst_at blocks at k ≡ Some i
inst_of blocks at k block i is isi = ap (option_and_then (λ b. slice_get b.insts k)) is ∙ isi

pub value_done : (setting : Setting) (blocks : List Block) (a b : Assigned) (standing next : List Standing) (queue longer : List ℕ) (l at k number : ℕ) (said : Fact)
    → length (results_in blocks) < 2 ^ 64 → All (SaysItsTypes setting (results_in blocks)) blocks
    → IsSolving setting blocks a standing queue [] (l ∷ []) → slice_get (looks_of blocks) l ≡ Some (Value at k number) → is_active a (Value at k number) ≡ true
    → Some said ≡ option_map (inst_fact setting a.facts) (inst_at blocks at k)
    → Rises blocks a b standing next queue longer number said → Looked setting blocks a b standing next queue longer
value_done setting blocks a b standing next queue longer l at k number said few typed s is active says rises =
    let v : IsValueLook blocks at k number = looks_are blocks l (Value at k number) is in
    let here : inst_at blocks at k ≡ Some v.inst = inst_of blocks at k v.block v.inst v.there v.is_inst in
    let same : said ≡ inst_fact setting a.facts v.inst = some_is (says ∙ ap (option_map (inst_fact setting a.facts)) here) in
    with_type v here same (result_type v.inst) refl
  where
    with_type : (v : IsValueLook blocks at k number) → inst_at blocks at k ≡ Some v.inst → said ≡ inst_fact setting a.facts v.inst → (o : Option Scalar) → result_type v.inst ≡ o → Looked setting blocks a b standing next queue longer
    with_type v here same None e = absurd (false≢true (ap is_some (sym e) ∙ v.has))
    with_type v here same (Some ty) e =
        let visit = visit_of setting blocks a at v.block v.there s.fits active few typed in
        let says_n : IsSaid setting blocks a number ty said = subst (λ m. IsSaid setting blocks a m ty said) (sym v.numbered) (subst (IsSaid setting blocks a (inst_result v.block.insts (first_result blocks at + length v.block.phis) k) ty) (sym same)
        (inst_said setting blocks a at (first_result blocks at) k v.block v.inst ty visit v.is_inst e)) in
        let less : number < length a.facts = omega (arith, within (results_in blocks) number ty says_n.there, facts_long blocks a s.fits) in
        rises_done setting blocks a b standing next queue longer l (Value at k number) number ty said s is says_n
        (λ low inst at_i. subst (λ i. IsBelow (inst_fact setting a.facts i) (fact_of a.facts number)) (some_is (sym here ∙ at_i)) (subst (λ f. IsBelow f (fact_of a.facts number)) same low))
        (λ unread inst at_i.
        let one : v.inst ≡ inst = some_is (sym here ∙ at_i) in
        let kept : inst_fact setting (with_fact a number said).facts inst ≡ inst_fact setting a.facts inst = inst_unread setting a.facts number (join (fact_of a.facts number) said) inst (λ c. unread (subst (λ o. Contains (registers (inst_operands o)) number) (sym at_i) c)) in
        subst (λ f. IsBelow f (fact_of (with_fact a number said).facts number)) (same ∙ ap (inst_fact setting a.facts) one ∙ sym kept) (raised_to a number said less))
        rises

-- ---- an entry of a phi

pub entry_of : (blocks : List Block) (at k j : ℕ) (block : Block) (phi : Phi) (entry : Operand × ℕ) → slice_get blocks at ≡ Some block → slice_get block.phis k ≡ Some phi → slice_get phi.entries j ≡ Some entry → entry_at blocks at k j ≡ Some entry
entry_of blocks at k j block phi entry is isp ise =
    ap (λ o. option_and_then (λ p. slice_get p.entries j) (option_and_then (λ b. slice_get b.phis k) o)) is ∙ ap (option_and_then (λ p. slice_get p.entries j)) isp ∙ ise

one_of_all : (f : Operand × ℕ → Fact) (entries : List (Operand × ℕ)) (j : ℕ) (e : Operand × ℕ) → slice_get entries j ≡ Some e → IsBelow (f e) (join_all (map f entries))
one_of_all f [] j e h = absurd (none-some e h)
one_of_all f (x ∷ xs) zero e h = subst (λ y. IsBelow (f y) (join (f x) (join_all (map f xs)))) (some_is h) (join_left (f x) (join_all (map f xs)))
one_of_all f (x ∷ xs) (suc j) e h = below_trans (f e) (join_all (map f xs)) (join (f x) (join_all (map f xs))) (one_of_all f xs j e h) (join_right (f x) (join_all (map f xs)))

entry_said : (setting : Setting) (blocks : List Block) (a : Assigned) (at from k j : ℕ) (block : Block) (phi : Phi) (entry : Operand × ℕ) → IsVisit setting blocks a at (first_result blocks at) block
    → slice_get block.phis k ≡ Some phi → slice_get phi.entries j ≡ Some entry → enters a entry.1 at ≡ true → IsSaid setting blocks a (first_result blocks at + k) phi.ty (operand_fact setting a.facts entry.0)
entry_said setting blocks a at from k j block phi entry v isp ise on = record {
  there = phi_there setting blocks a at (first_result blocks at) k block phi v isp;
  suits = v.typed.entries a.facts v.fits.facts k j phi entry isp ise;
  least = λ other closed less.
      let counts : entry_fact setting other at entry ≡ operand_fact setting other.facts entry.0 = ap (λ b. cond b (operand_fact setting other.facts entry.0) Unreached) (enters_rises a other less entry.1 at on) in
      let all : IsBelow (phi_fact setting other at phi) (fact_of other.facts (first_result blocks at + k)) = (closed_above setting blocks a other at (first_result blocks at) block v closed less).phis k phi isp in
      let one : IsBelow (operand_fact setting other.facts entry.0) (phi_fact setting other at phi) = subst (λ f. IsBelow f (phi_fact setting other at phi)) counts (one_of_all (entry_fact setting other at) phi.entries j entry ise) in
      below_trans (operand_fact setting a.facts entry.0) (operand_fact setting other.facts entry.0) (fact_of other.facts (first_result blocks at + k)) (operand_rises setting a.facts other.facts less.facts entry.0)
      (below_trans (operand_fact setting other.facts entry.0) (phi_fact setting other at phi) (fact_of other.facts (first_result blocks at + k)) one all);
}

pub entry_done : (setting : Setting) (blocks : List Block) (a b : Assigned) (standing next : List Standing) (queue longer : List ℕ) (l at from k j number : ℕ) (said : Fact)
    → length (results_in blocks) < 2 ^ 64 → All (SaysItsTypes setting (results_in blocks)) blocks
    → IsSolving setting blocks a standing queue [] (l ∷ []) → slice_get (looks_of blocks) l ≡ Some (Entry at from k j number) → is_active a (Entry at from k j number) ≡ true
    → Some said ≡ option_map (λ entry. operand_fact setting a.facts entry.0) (entry_at blocks at k j)
    → Rises blocks a b standing next queue longer number said → Looked setting blocks a b standing next queue longer
entry_done setting blocks a b standing next queue longer l at from k j number said few typed s is active says rises =
    let v : IsEntryLook blocks at from k j number = looks_are blocks l (Entry at from k j number) is in
    let here : entry_at blocks at k j ≡ Some v.entry = entry_of blocks at k j v.block v.phi v.entry v.there v.is_phi v.is_entry in
    let same : said ≡ operand_fact setting a.facts v.entry.0 = some_is (says ∙ ap (option_map (λ entry. operand_fact setting a.facts entry.0)) here) in
    let edge = entered a from at active in
    let visit = visit_of setting blocks a at v.block v.there s.fits (reached_when a from edge.0 at edge.1) few typed in
    let says_n : IsSaid setting blocks a number v.phi.ty said = subst (λ m. IsSaid setting blocks a m v.phi.ty said) (sym v.numbered) (subst (IsSaid setting blocks a (first_result blocks at + k) v.phi.ty) (sym same)
    (entry_said setting blocks a at from k j v.block v.phi v.entry visit v.is_phi v.is_entry (subst (λ p. enters a p at ≡ true) (sym v.comes) active))) in
    let less : number < length a.facts = omega (arith, within (results_in blocks) number v.phi.ty says_n.there, facts_long blocks a s.fits) in
    rises_done setting blocks a b standing next queue longer l (Entry at from k j number) number v.phi.ty said s is says_n
    (λ low entry at_e. subst (λ e. IsBelow (operand_fact setting a.facts e.0) (fact_of a.facts number)) (some_is (sym here ∙ at_e)) (subst (λ f. IsBelow f (fact_of a.facts number)) same low))
    (λ unread entry at_e.
    let one : v.entry ≡ entry = some_is (sym here ∙ at_e) in
    let kept : operand_fact setting (with_fact a number said).facts entry.0 ≡ operand_fact setting a.facts entry.0 =
    operand_unread setting a.facts number (join (fact_of a.facts number) said) entry.0 (λ c. unread (subst (λ o. Contains (registers (entry_operands o)) number) (sym at_e) c)) in
    subst (λ f. IsBelow f (fact_of (with_fact a number said).facts number)) (same ∙ ap (λ e. operand_fact setting a.facts e.0) one ∙ sym kept) (raised_to a number said less))
    rises

-- ---- numbers that are there

pub value_number : (blocks : List Block) (a : Assigned) (l at k number : ℕ) → IsAssignmentIn blocks a → slice_get (looks_of blocks) l ≡ Some (Value at k number) → number < length a.facts
value_number blocks a l at k number fits is = by (looks_are blocks l (Value at k number) is)
  where
    typed : (v : IsValueLook blocks at k number) → (o : Option Scalar) → result_type v.inst ≡ o → number < length a.facts
    typed v None e = absurd (false≢true (ap is_some (sym e) ∙ v.has))
    typed v (Some ty) e =
        let r = result_in blocks at v.block (length v.block.phis + length (types (take k v.block.insts))) ty v.there (inst_typed v.block k v.inst ty v.is_inst e) in
        omega (arith, v.numbered, within (results_in blocks) (first_result blocks at + (length v.block.phis + length (types (take k v.block.insts)))) ty r, facts_long blocks a fits)

    by : IsValueLook blocks at k number → number < length a.facts
    by v = typed v (result_type v.inst) refl

pub entry_number : (blocks : List Block) (a : Assigned) (l at from k j number : ℕ) → IsAssignmentIn blocks a → slice_get (looks_of blocks) l ≡ Some (Entry at from k j number) → number < length a.facts
entry_number blocks a l at from k j number fits is =
    let v : IsEntryLook blocks at from k j number = looks_are blocks l (Entry at from k j number) is in
    omega (arith, v.numbered, within (results_in blocks) (first_result blocks at + k) v.phi.ty (result_in blocks at v.block k v.phi.ty v.there (phi_result v.block k v.phi v.is_phi)), facts_long blocks a fits)

pub entry_there : (blocks : List Block) (l at from k j number : ℕ) → slice_get (looks_of blocks) l ≡ Some (Entry at from k j number) → IsSome (entry_at blocks at k j)
entry_there blocks l at from k j number is =
    let v : IsEntryLook blocks at from k j number = looks_are blocks l (Entry at from k j number) is in
    ap is_some (entry_of blocks at k j v.block v.phi v.entry v.there v.is_phi v.is_entry)

pub value_there : (blocks : List Block) (l at k number : ℕ) → slice_get (looks_of blocks) l ≡ Some (Value at k number) → IsSome (inst_at blocks at k)
value_there blocks l at k number is =
    let v : IsValueLook blocks at k number = looks_are blocks l (Value at k number) is in
    ap is_some (inst_of blocks at k v.block v.inst v.there v.is_inst)

pub term_there : (blocks : List Block) (l at : ℕ) → slice_get (looks_of blocks) l ≡ Some (Term at) → (block : Block) × (slice_get blocks at ≡ Some block)
term_there blocks l at is = looks_are blocks l (Term at) is

-- ---- what a transfer says

pub fact_says : (f : Inst → Fact) (o : Option Inst) (x : Fact) → Some (said.Fact x) ≡ option_map (λ i. said.Fact (f i)) o → Some x ≡ option_map f o
fact_says f None x h = absurd (none-some (said.Fact x) (sym h))
fact_says f (Some i) x h = ap Some (ap fact_in (some_is h))
  where
    fact_in : Said → Fact
    fact_in (said.Fact y) = y
    fact_in (said.Edges asked) = Unreached

pub edges_say : (f : Block → Edges) (block : Block) (asked : Edges) → Some (said.Edges asked) ≡ Some (said.Edges (f block)) → asked ≡ f block
edges_say f block asked h = ap edges_in (some_is h)
  where
    edges_in : Said → Edges
    edges_in (said.Fact y) = Nothing
    edges_in (said.Edges e) = e
