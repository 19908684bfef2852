-- What waits is looked at, until nothing waits.
use Rattle.std.proofs.Common.{◌≡◌, ◌∙◌, inl, inr, ℕ, suc, ◌+◌, ◌<◌, Bool, true, false, cond, List, [], ◌∷◌, ◌++◌, Some, length, map, set, refl, sym, ap, subst, arith}
use Rattle.std.specs.Prelude.{slice_get, Contains, IsTrue, sum_by}
use Rattle.std.proofs.lemmas.Bool.{false≢true}
use Rattle.std.proofs.lemmas.List.{length-set}
use Rattle.std.proofs.lemmas.List.Elements.{Contains-push_cases}
use Rattle.ir_syntax.specs.declared.constant.Operand.{Operand}
use Rattle.ir_syntax.specs.declared.body.Phi.{Phi}
use Rattle.ir_syntax.specs.declared.body.Block.{Block}
use Rattle.ir_syntax.specs.Edges.{successors}
use Rattle.ir_syntax.specs.Definite.{first_result}
use Rattle.fold_facts.specs.declared.fact.Fact.{Fact}
use Rattle.fold_facts.specs.declared.fact.Fact.TheVariants.{Unreached}
use Rattle.fold_facts.specs.declared.said.Edges.{Edges}
use Rattle.fold_facts.specs.Facts.{IsBelow, join_all}
use Rattle.fold_facts.specs.Assigned.{Assigned, fact_of, enters}
use Rattle.fold_facts.specs.Operands.{Setting, operand_fact}
use Rattle.fold_facts.specs.Phis.{entry_fact}
use Rattle.fold_facts.specs.Terminators.{asks, term_edges}
use Rattle.fold_facts.specs.Closed.{IsLeastClosed}
use Rattle.fold_facts.proofs.Lists.{some_is, is_or_not, set_same, set_other, there, within, sum_set}
use Rattle.fold_facts.proofs.Orders.{join_least}
use Rattle.fold_facts.proofs.Rising.{term_rises}
use Rattle.fold_facts.proofs.Reaching.{reached_rises}
use Rattle.fold_sparse.specs.declared.look.Look.{Look}
use Rattle.fold_sparse.specs.declared.look.Look.TheVariants.{Entry, Term}
use Rattle.fold_sparse.specs.declared.standing.Standing.{Standing}
use Rattle.fold_sparse.specs.declared.standing.Standing.TheVariants.{Unopened, Queued, Idle}
use Rattle.fold_sparse.specs.Groups.{members}
use Rattle.fold_sparse.specs.Looks.{looks_of, is_active, IsMet, uses_from, sources_from}
use Rattle.fold_sparse.specs.Solving.{IsSolving, left, unopened, is_unopened, is_queued, Opens, ReachesAll}
use Rattle.fold_sparse.specs.Looking.{IsLooking, IsLooked}
use Rattle.fold_sparse.proofs.Opening.{in_none, in_cons, fewer, is_queued_some}
use Rattle.fold_sparse.proofs.Keys.{first_in}
use Rattle.fold_sparse.proofs.Places.{has_entry, has_value, has_term}
use Rattle.fold_sparse.proofs.Raising.{entry_of, inst_of}

-- ---- a look is taken

pub taken_not : (setting : Setting) (blocks : List Block) (a : Assigned) (standing : List Standing) (queue : List ℕ) (l : ℕ) → is_queued (slice_get standing l) ≡ false
    → IsSolving setting blocks a standing (queue ++ l ∷ []) [] [] → IsLooked setting blocks a a standing standing queue queue
taken_not setting blocks a standing queue l not s = record {
  solving = record {
    fits = s.fits;
    below = s.below;
    long = s.long;
    opened = s.opened;
    seen = s.seen;
    waits = λ x at. elim (Contains-push_cases queue l x (s.waits x at)) [
      | inl rest ↦ rest
      | inr same ↦ absurd (false≢true (sym not ∙ ap is_queued (subst (λ m. slice_get standing m ≡ Some Queued) (sym same) at)))
    ];
    met = s.met;
  };
  left = omega arith;
}

-- A look that waits was opened, so it is active.
pub taken_active : (setting : Setting) (blocks : List Block) (a : Assigned) (standing : List Standing) (queue : List ℕ) (l : ℕ) (look : Look) → is_queued (slice_get standing l) ≡ true
    → slice_get (looks_of blocks) l ≡ Some look → IsSolving setting blocks a standing (queue ++ l ∷ []) [] [] → is_active a look ≡ true
taken_active setting blocks a standing queue l look queued is s = elim (s.opened l look is) [
  | inl un ↦ absurd (false≢true (ap is_queued (sym un) ∙ queued))
  | inr on ↦ on
]

pub taken : (setting : Setting) (blocks : List Block) (a : Assigned) (standing next : List Standing) (queue : List ℕ) (l : ℕ) (look : Look) → is_queued (slice_get standing l) ≡ true → slice_get (looks_of blocks) l ≡ Some look
    → next ≡ set standing l Idle → IsSolving setting blocks a standing (queue ++ l ∷ []) [] [] → IsLooking setting blocks a next queue l look
taken setting blocks a standing next queue l look queued is made s = subst (λ n. IsLooking setting blocks a n queue l look) (sym made) (record {
  there = is;
  active = taken_active setting blocks a standing queue l look queued is s;
  solving = record {
    fits = s.fits;
    below = s.below;
    long = length-set standing l Idle ∙ s.long;
    opened = λ x other at. elim (is_or_not x l) [
      | inl same ↦
          let one : other ≡ look = some_is (sym at ∙ ap (slice_get (looks_of blocks)) same ∙ is) in
          inr (subst (λ k. is_active a k ≡ true) (sym one) (taken_active setting blocks a standing queue l look queued is s))
      | inr ne ↦ elim (s.opened x other at) [ inl un ↦ inl (set_other standing l x Idle ne ∙ un) | inr on ↦ inr on ]
    ];
    seen = λ x other at on un. elim (is_or_not x l) [
      | inl same ↦ absurd (false≢true (ap is_unopened (sym (set_same standing l Idle less) ∙ subst (λ m. slice_get (set standing l Idle) m ≡ Some Unopened) same un)))
      | inr ne ↦ s.seen x other at on (sym (set_other standing l x Idle ne) ∙ un)
    ];
    waits = λ x at. elim (is_or_not x l) [
      | inl same ↦ absurd (false≢true (ap is_queued (sym (set_same standing l Idle less) ∙ subst (λ m. slice_get (set standing l Idle) m ≡ Some Queued) same at)))
      | inr ne ↦ elim (Contains-push_cases queue l x (s.waits x (sym (set_other standing l x Idle ne) ∙ at))) [ inl rest ↦ rest | inr same ↦ absurd (ne (sym same)) ]
    ];
    met = λ x other at idle. elim (is_or_not x l) [
      | inl same ↦ inr (subst (Contains (l ∷ [])) (sym same) (first_in l []))
      | inr ne ↦ elim (s.met x other at (sym (set_other standing l x Idle ne) ∙ idle)) [ inl ok ↦ inl ok | inr none ↦ absurd (in_none x none) ]
    ];
  };
})
  where
    less : l < length standing
    less = within standing l Queued (is_queued_some (slice_get standing l) queued)

-- and so many transfers are left as before
pub taken_left : (uses : List (ℕ × ℕ)) (facts : List Fact) (standing next : List Standing) (queue : List ℕ) (l : ℕ) → is_queued (slice_get standing l) ≡ true → next ≡ set standing l Idle → left uses facts next queue ≡ left uses facts standing queue
taken_left uses facts standing next queue l queued made =
    let sum : sum_by unopened (set standing l Idle) + unopened Queued ≡ sum_by unopened standing + unopened Idle = sum_set unopened standing l Queued Idle (is_queued_some (slice_get standing l) queued) in
    let one : unopened Queued ≡ 0 = refl in
    let two : unopened Idle ≡ 0 = refl in
    ap (λ n. left uses facts n queue) made ∙ omega (arith, sum, one, two)

pub looked_after : (setting : Setting) (blocks : List Block) (a b : Assigned) (standing mid next : List Standing) (queue longer : List ℕ) → left (uses_from blocks 0 (looks_of blocks)) a.facts mid queue ≡ left (uses_from blocks 0 (looks_of blocks)) a.facts standing queue
    → IsLooked setting blocks a b mid next queue longer → IsLooked setting blocks a b standing next queue longer
looked_after setting blocks a b standing mid next queue longer same h = record { solving = h.solving; left = omega (arith, h.left, same) }

-- ---- a terminator

abbrev Out : List Block → ℕ → List ℕ
Out blocks at = members (sources_from 0 (looks_of blocks)) at

append_none : {A : Type 0} (xs : List A) → xs ++ [] ≡ xs
append_none [] = refl
append_none (x ∷ xs) = ap (λ l. x ∷ l) (append_none xs)

pub term_done : (setting : Setting) (blocks : List Block) (a b : Assigned) (standing mid next : List Standing) (queue longer longest group : List ℕ) (l at : ℕ) (block : Block) (asked : Edges)
    → IsLooking setting blocks a standing queue l (Term at) → slice_get blocks at ≡ Some block → asked ≡ term_edges setting a.facts block.term
    → ReachesAll blocks a b standing mid queue longer at (successors block.term) asked (length (successors block.term))
    → group ≡ Out blocks at → Opens blocks b mid next longer longest group → IsLooked setting blocks a b standing next queue longest
term_done setting blocks a b standing mid next queue longer longest group l at block asked h is says reaches same opens =
    let wider : IsSolving setting blocks a standing queue (Out blocks at) (l ∷ []) = fewer setting blocks a standing queue (Out blocks at) [] (l ∷ []) (l ∷ []) (λ x look there on un none. absurd (in_none x none)) (λ x look there idle c. inr c) h.solving in
    let gone : IsSolving setting blocks b mid longer (Out blocks at) (l ∷ []) = reaches.goes setting (l ∷ [])
    (λ other closed above k to at_k asking. (closed at block is (reached_rises a other above at h.active)).edges k to at_k
    (term_rises setting a.facts other.facts above.facts block.term k (subst (λ e. IsTrue (asks e k)) says asking))) wider in
    let calm : IsSolving setting blocks b mid longer (Out blocks at) [] = fewer setting blocks b mid longer (Out blocks at) (Out blocks at) [] (l ∷ []) (λ x look there on un c. c)
    (λ x look there idle c. elim (in_cons l [] x c) [
      | inl here ↦ inl (subst (IsMet setting blocks b) (some_is (sym h.there ∙ subst (λ m. slice_get (looks_of blocks) m ≡ Some look) here there)) met)
      | inr none ↦ inr none
    ]) gone in
    record {
      solving = opens.goes setting [] [] (subst (λ u. IsSolving setting blocks b mid longer u []) (sym same ∙ sym (append_none group)) calm);
      left = omega (arith, reaches.left (uses_from blocks 0 (looks_of blocks)), opens.left (uses_from blocks 0 (looks_of blocks)));
    }
  where
    met : IsMet setting blocks b (Term at)
    met other there k to at_k asking =
        let one : other ≡ block = some_is (sym there ∙ is) in
        let at_b : slice_get (successors block.term) k ≡ Some to = subst (λ c. slice_get (successors c.term) k ≡ Some to) one at_k in
        let asks_b : IsTrue (asks (term_edges setting b.facts block.term) k) = subst (λ c. IsTrue (asks (term_edges setting b.facts c.term) k)) one asking in
        let asks_a : IsTrue (asks asked k) = subst (λ e. IsTrue (asks e k)) (ap (λ fs. term_edges setting fs block.term) reaches.facts ∙ sym says) asks_b in
        reaches.reached k to (within (successors block.term) k to at_b) at_b asks_a

-- ---- the end

all_below : (f : Operand × ℕ → Fact) (entries : List (Operand × ℕ)) (z : Fact) → ((j : ℕ) (e : Operand × ℕ) → slice_get entries j ≡ Some e → IsBelow (f e) z) → IsBelow (join_all (map f entries)) z
all_below f [] z h = tt
all_below f (e ∷ es) z h = join_least (f e) (join_all (map f es)) z (h 0 e refl) (all_below f es z (λ j. h (suc j)))

pub closed_end : (setting : Setting) (blocks : List Block) (a : Assigned) (standing : List Standing) → IsSolving setting blocks a standing [] [] [] → IsLeastClosed setting blocks a
closed_end setting blocks a standing s = record {
  closed = λ place block is reached. record {
    phis = λ k phi isp. all_below (entry_fact setting a place) phi.entries (fact_of a.facts (first_result blocks place + k)) (λ j entry ise. entry_low place block k phi j entry is isp ise (enters a entry.1 place) refl);
    insts = λ k i isi some.
        let v = has_value blocks place k block i is isi some in
        met v.0 _ v.1 reached i (inst_of blocks place k block i is isi);
    edges =
        let t = has_term blocks place block is in
        met t.0 (Term place) t.1 reached block is;
  };
  least = s.below;
}
  where
    stands : (l : ℕ) (look : Look) → slice_get (looks_of blocks) l ≡ Some look → is_active a look ≡ true → (o : Standing) → slice_get standing l ≡ Some o → IsMet setting blocks a look
    stands l look is on Unopened at = absurd (in_none l (s.seen l look is on at))
    stands l look is on Queued at = absurd (in_none l (s.waits l at))
    stands l look is on Idle at = elim (s.met l look is at) [ inl ok ↦ ok | inr none ↦ absurd (in_none l none) ]

    met : (l : ℕ) (look : Look) → slice_get (looks_of blocks) l ≡ Some look → is_active a look ≡ true → IsMet setting blocks a look
    met l look is on =
        let o = there standing l (omega (arith, within (looks_of blocks) l look is, s.long)) in
        stands l look is on o.0 o.1

    entry_low : (place : ℕ) (block : Block) (k : ℕ) (phi : Phi) (j : ℕ) (entry : Operand × ℕ) → slice_get blocks place ≡ Some block → slice_get block.phis k ≡ Some phi → slice_get phi.entries j ≡ Some entry
        → (r : Bool) → enters a entry.1 place ≡ r → IsBelow (cond r (operand_fact setting a.facts entry.0) Unreached) (fact_of a.facts (first_result blocks place + k))
    entry_low place block k phi j entry is isp ise false r = tt
    entry_low place block k phi j entry is isp ise true r =
        let e = has_entry blocks place k j block phi entry is isp ise in
        met e.0 (Entry place entry.1 k j (first_result blocks place + k)) e.1 r entry (entry_of blocks place k j block phi entry is isp ise)
