-- The rounds of visits give the least closed assignment.
use Rattle.std.proofs.Common.{◌≡◌, ◌∙◌, ℕ, zero, suc, ◌+◌, ◌≤◌, ◌<◌, ◌^◌, Bool, true, false, cond, List, Option, None, Some, IsSome, IsTrue, IsFalse, All, length, refl, sym, ap, subst, arith, add-one}
use Rattle.std.specs.Prelude.{◌&&◌, ◌||◌, not, slice_get, is_some, MatchBool}
use Rattle.std.specs.Option.{IfSome}
use Rattle.std.proofs.lemmas.Bool.{false≢true, eqb-true, eqb-false}
use Rattle.std.proofs.lemmas.Option.{none-some}
use Rattle.ir_types.specs.declared.scalar.Scalar.{Scalar}
use Rattle.ir_types.specs.declared.scalar.Known.{Known}
use Rattle.ir_types.specs.declared.scalar.Known.TheVariants.{Unknown, Num, Null}
use Rattle.ir_types.proofs.ListSteps.{All-at}
use Rattle.ir_syntax.specs.declared.body.Inst.{Inst}
use Rattle.ir_syntax.specs.declared.body.Phi.{Phi}
use Rattle.ir_syntax.specs.declared.body.Block.{Block}
use Rattle.ir_syntax.specs.declared.item.Func.{Func}
use Rattle.ir_syntax.specs.Definite.{first_result, has_result}
use Rattle.ir_syntax.specs.Edges.{successors}
use Rattle.ir_syntax.specs.Results.{result_type, block_results}
use Rattle.ir_syntax.specs.SoundFunctions.{IsSoundFunction}
use Rattle.fold_facts.specs.declared.fact.Fact.{Fact}
use Rattle.fold_facts.specs.declared.fact.Fact.TheVariants.{Unreached, One, Varying}
use Rattle.fold_facts.specs.declared.edge.Edge.{Edge}
use Rattle.fold_facts.specs.declared.said.Edges.{Edges}
use Rattle.fold_facts.specs.Facts.{IsBelow, is_same}
use Rattle.fold_facts.specs.Assigned.{Assigned, fact_of, is_reached}
use Rattle.fold_facts.specs.Closed.{inst_result, AreInstsClosed, AreEdgesClosed, IsClosedBlock, IsLeastClosed}
use Rattle.fold_facts.specs.Operands.{Setting}
use Rattle.fold_facts.specs.OfFunction.{AreKnownOf, IsAssignmentIn, IsAssignmentOf, results_in}
use Rattle.fold_facts.specs.Instructions.{inst_fact}
use Rattle.fold_facts.specs.Phis.{phi_fact}
use Rattle.fold_facts.specs.Places.{blocks_of}
use Rattle.fold_facts.specs.Terminators.{asks, term_edges}
use Rattle.fold_facts.specs.Raising.{with_fact, with_edge, room, blank, SaysItsTypes, IsVisit, Raises}
use Rattle.fold_facts.proofs.Lists.{there}
use Rattle.fold_facts.proofs.Raised.{raises_none, raises_both}
use Rattle.fold_facts.proofs.Settling.{Settles, settle_start, settle_step, settle_end}
use Rattle.fold_facts.proofs.Suiting.{few_results, all_suit}
use Rattle.fold_facts.proofs.Visits.{visit_goes, PhisRaised, phis_start, phis_step, phis_end, InstsRaised, InstRaised, insts_start, insts_step, insts_end, EdgesRaised, edges_start, edges_step, edges_end, edge_there, AllRaised, all_start, all_step, all_end}
use Rattle.specialise.specs.Mirrors.Solving.{Round, is_below, raised, visit_phi, visit_phis, raise_result, visit_inst, visit_insts, visit_edge, visit_edges, all_phis, all_insts, all_edges, visit_block, visit_if, visit_place, visit_blocks, settled, least_of}

-- ---- facts

same_is : (v w : Known) → is_same v w ≡ true → v ≡ w
same_is Unknown Unknown e = refl
same_is Unknown (Num n) e = absurd (false≢true e)
same_is Unknown Null e = absurd (false≢true e)
same_is (Num m) Unknown e = absurd (false≢true e)
same_is (Num m) (Num n) e = ap Num (eqb-true m n e)
same_is (Num m) Null e = absurd (false≢true e)
same_is Null Unknown e = absurd (false≢true e)
same_is Null (Num n) e = absurd (false≢true e)
same_is Null Null e = refl

other_is : (v w : Known) → is_same v w ≡ false → v ≡ w → ⊥
other_is Unknown Unknown e h = false≢true (sym e)
other_is Unknown (Num n) e h = cc
other_is Unknown Null e h = cc
other_is (Num m) Unknown e h = cc
other_is (Num m) (Num n) e h = eqb-false m n e (num_is h)
  where
    num_is : Num m ≡ Num n → m ≡ n
    num_is g = cc
other_is (Num m) Null e h = cc
other_is Null Unknown e h = cc
other_is Null (Num n) e h = cc
other_is Null Null e h = false≢true (sym e)

below_test : (x y : Fact) → MatchBool (not (not (is_below x y))) (IsBelow x y) (IsBelow x y → ⊥)
below_test Unreached y = tt
below_test (One v) Unreached = λ h. h
below_test (One v) (One w) = by (is_same v w) refl
  where
    by : (b : Bool) → is_same v w ≡ b → MatchBool (not (not b)) (v ≡ w) (v ≡ w → ⊥)
    by true e = same_is v w e
    by false e = other_is v w e
below_test (One v) Varying = tt
below_test Varying Unreached = λ h. h
below_test Varying (One w) = λ h. h
below_test Varying Varying = tt

-- ---- phis

phis_are : (setting : Setting) (blocks : List Block) (a : Assigned) (place first : ℕ) (block : Block) (n : ℕ) → IsVisit setting blocks a place first block → n ≤ length block.phis
    → PhisRaised setting blocks a (visit_phis setting place first block n a).a place first n block (visit_phis setting place first block n a).changed
phis_are setting blocks a place first block zero v within = phis_start setting blocks a place first block v.fits
phis_are setting blocks a place first block (suc n) v within =
    let at = there block.phis n (omega arith) in
    let before = phis_are setting blocks a place first block n v (omega arith) in
    let r = visit_phis setting place first block n a in
    let said = phi_fact setting r.a place at.0 in
    let step = phis_step setting blocks a r.a (with_fact r.a (first + n) said) place first n block at.0 said r.changed (not (is_below said (fact_of r.a.facts (first + n)))) v before at.1 refl refl (below_test said (fact_of r.a.facts (first + n))) in
    subst (λ (o : Option Phi). PhisRaised setting blocks a (visit_phi setting place (first + n) o r).a place first (suc n) block (visit_phi setting place (first + n) o r).changed) (sym at.1)
    (subst (λ m. PhisRaised setting blocks a (with_fact r.a (first + n) said) place first m block (r.changed || not (is_below said (fact_of r.a.facts (first + n))))) (add-one n) step)

-- ---- other instructions

insts_are : (setting : Setting) (blocks : List Block) (a : Assigned) (place first : ℕ) (block : Block) (n : ℕ) → IsVisit setting blocks a place first block → n ≤ length block.insts
    → InstsRaised setting blocks a (visit_insts setting first block n a).a first n (inst_result block.insts (first + length block.phis) n) block (visit_insts setting first block n a).changed
insts_are setting blocks a place first block zero v within =
    let start = insts_start setting blocks a first (first + length block.phis) block v.fits refl in
    subst (λ m. InstsRaised setting blocks a a first 0 m block false) start.numbered start
insts_are setting blocks a place first block (suc n) v within =
    let at = there block.insts n (omega arith) in
    subst (λ (o : Option Inst). InstsRaised setting blocks a (visit_inst setting number o r).a first (suc n) (inst_result block.insts (first + length block.phis) (suc n)) block (visit_inst setting number o r).changed) (sym at.1)
    (by at.0 at.1 (result_type at.0) refl (insts_are setting blocks a place first block n v (omega arith)))
  where
    r : Round
    r = visit_insts setting first block n a

    number : ℕ
    number = inst_result block.insts (first + length block.phis) n

    step : InstsRaised setting blocks a r.a first n number block r.changed → (i : Inst) (c : Assigned) (raised : Bool) → slice_get block.insts n ≡ Some i → InstRaised setting r.a c number i raised
        → InstsRaised setting blocks a c first (suc n) (inst_result block.insts (first + length block.phis) (suc n)) block (r.changed || raised)
    step before i c raised is made =
        let next = insts_step setting blocks a r.a c place first n number (number + has_result (result_type i)) block i r.changed raised v before is made refl in
        let moved = subst (λ m. InstsRaised setting blocks a c first m (number + has_result (result_type i)) block (r.changed || raised)) (add-one n) next in
        subst (λ m. InstsRaised setting blocks a c first (suc n) m block (r.changed || raised)) moved.numbered moved

    by : (i : Inst) → slice_get block.insts n ≡ Some i → (o : Option Scalar) → result_type i ≡ o → InstsRaised setting blocks a r.a first n number block r.changed
        → InstsRaised setting blocks a (raise_result setting number o i r).a first (suc n) (inst_result block.insts (first + length block.phis) (suc n)) block (raise_result setting number o i r).changed
    by i is None e before =
        subst (InstsRaised setting blocks a r.a first (suc n) (inst_result block.insts (first + length block.phis) (suc n)) block) (or_false r.changed)
        (step before i r.a false is (record {
          value = ap (λ o. cond (is_some o) (with_fact r.a number (inst_fact setting r.a.facts i)) r.a) (sym e);
          none = λ h. refl;
          changed = λ some. absurd (false≢true (subst IsSome e some));
        }))
      where
        or_false : (b : Bool) → (b || false) ≡ b
        or_false true = refl
        or_false false = refl
    by i is (Some ty) e before =
        step before i (with_fact r.a number (inst_fact setting r.a.facts i)) (not (is_below (inst_fact setting r.a.facts i) (fact_of r.a.facts number))) is (record {
          value = ap (λ o. cond (is_some o) (with_fact r.a number (inst_fact setting r.a.facts i)) r.a) (sym e);
          none = λ h. absurd (none-some ty (sym h ∙ e));
          changed = λ some. below_test (inst_fact setting r.a.facts i) (fact_of r.a.facts number);
        })

-- ---- edges

edges_are : (setting : Setting) (blocks : List Block) (a : Assigned) (place first : ℕ) (block : Block) (n : ℕ) → IsVisit setting blocks a place first block → n ≤ length (successors block.term)
    → EdgesRaised setting blocks a (visit_edges (term_edges setting a.facts block.term) place n a).a place n block (term_edges setting a.facts block.term) (visit_edges (term_edges setting a.facts block.term) place n a).changed
edges_are setting blocks a place first block zero v within = edges_start setting blocks a place block (term_edges setting a.facts block.term) v.fits
edges_are setting blocks a place first block (suc n) v within =
    let before = edges_are setting blocks a place first block n v (omega arith) in
    let to = there (successors block.term) n (omega arith) in
    let edge = edge_there blocks r.a place n to.0 block before.raises.fits v.there to.1 in
    let flag = asks asked n && not edge.0.reached in
    let made = cond flag (with_edge r.a place n edge.0.to) r.a in
    let step = edges_step setting blocks a r.a made place first n block asked r.changed flag v refl before (omega arith)
    (subst (λ o. IfSome o (λ e. flag ≡ (asks asked n && not e.reached))) (sym edge.1) refl) (subst (λ o. IfSome o (λ e. made ≡ cond (asks asked n && not e.reached) (with_edge r.a place n e.to) r.a)) (sym edge.1) refl) in
    subst (λ (o : Option Edge). EdgesRaised setting blocks a (visit_edge (asks asked n) place n o r).a place (suc n) block asked (visit_edge (asks asked n) place n o r).changed) (sym edge.1)
    (subst (λ m. EdgesRaised setting blocks a made place m block asked (r.changed || flag)) (add-one n) step)
  where
    asked : Edges
    asked = term_edges setting a.facts block.term

    r : Round
    r = visit_edges asked place n a

-- ---- blocks

-- what a visit of a block gives
record BlockRaised (setting : Setting) (blocks : List Block) (a : Assigned) (place first : ℕ) (block : Block) (r : Round) : Type 0 where
  pub raises : Raises setting blocks a r.a r.changed
  pub closed : IsFalse r.changed → IsClosedBlock setting a place first block

or_none : (x y : Bool) → (x || y) ≡ false → (x ≡ false) × (y ≡ false)
or_none true y h = absurd (false≢true (sym h))
or_none false y h = (refl, h)

block_is : (setting : Setting) (blocks : List Block) (a : Assigned) (place first : ℕ) (block : Block) → IsVisit setting blocks a place first block → BlockRaised setting blocks a place first block (visit_block setting place first block a)
block_is setting blocks a place first block v =
    let phis = phis_are setting blocks a place first block (length block.phis) v (omega arith) in
    let v_phis = visit_goes setting blocks a ph.a place first block ph.changed v phis.raises in
    let insts = insts_are setting blocks ph.a place first block (length block.insts) v_phis (omega arith) in
    let v_insts = visit_goes setting blocks ph.a ins.a place first block ins.changed v_phis insts.raises in
    let edges = edges_are setting blocks ins.a place first block (length (successors block.term)) v_insts (omega arith) in
    record {
      raises = raises_both setting blocks a ins.a ed.a (ph.changed || ins.changed) ed.changed (raises_both setting blocks a ph.a ins.a ph.changed ins.changed phis.raises insts.raises) edges.raises;
      closed = λ f.
          let none = or_none (ph.changed || ins.changed) ed.changed f in
          let two = or_none ph.changed ins.changed none.0 in
          let same_phis : ph.a ≡ a = phis.raises.same two.0 in
          let same_insts : ins.a ≡ a = insts.raises.same two.1 ∙ same_phis in
          record {
            phis = phis_end setting blocks a ph.a place first (length block.phis) block ph.changed (omega arith) phis two.0;
            insts = subst (λ b. AreInstsClosed setting b first block) same_phis
                (insts_end setting blocks ph.a ins.a first (length block.insts) (inst_result block.insts (first + length block.phis) (length block.insts)) block ins.changed (omega arith) insts two.1);
            edges = subst (λ b. AreEdgesClosed setting b place block) same_insts
                (edges_end setting blocks ins.a ed.a place (length (successors block.term)) block (term_edges setting ins.a.facts block.term) ed.changed (omega arith) refl edges none.1);
          };
    }
  where
    ph : Round
    ph = all_phis setting place first block a

    ins : Round
    ins = all_insts setting first block ph.a

    ed : Round
    ed = all_edges setting place block ins.a

-- ---- rounds

-- the blocks of a sound function, of whose parameters this is known
record AreSound (setting : Setting) (blocks : List Block) : Type 0 where
  pub few : length (results_in blocks) < 2 ^ 64
  pub typed : All (SaysItsTypes setting (results_in blocks)) blocks

if_is : (setting : Setting) (blocks : List Block) (a : Assigned) (place : ℕ) (block : Block) (reached : Bool) → is_reached a place ≡ reached → AreSound setting blocks → IsAssignmentIn blocks a → slice_get blocks place ≡ Some block
    → Raises setting blocks a (visit_if reached setting place (first_result blocks place) block a).a (visit_if reached setting place (first_result blocks place) block a).changed
    × (IsFalse (visit_if reached setting place (first_result blocks place) block a).changed → IsTrue (is_reached a place) → IsClosedBlock setting a place (first_result blocks place) block)
if_is setting blocks a place block false e sound fits is = (raises_none setting blocks a fits, λ f here. absurd (false≢true (sym e ∙ here)))
if_is setting blocks a place block true e sound fits is =
    let made = block_is setting blocks a place (first_result blocks place) block (record {
      there = is;
      numbered = refl;
      reached = e;
      fits = fits;
      few = sound.few;
      typed = All-at (SaysItsTypes setting (results_in blocks)) blocks place block sound.typed is;
    }) in
    (made.raises, λ f here. made.closed f)

blocks_are : (setting : Setting) (blocks : List Block) (a : Assigned) (n : ℕ) → AreSound setting blocks → IsAssignmentIn blocks a → n ≤ length blocks
    → AllRaised setting blocks a (visit_blocks setting blocks n a).a n (first_result blocks n) (visit_blocks setting blocks n a).changed
blocks_are setting blocks a zero sound fits within =
    let start = all_start setting blocks a fits in
    subst (λ m. AllRaised setting blocks a a 0 m false) start.numbered start
blocks_are setting blocks a (suc n) sound fits within =
    let at = there blocks n (omega arith) in
    let before = blocks_are setting blocks a n sound fits (omega arith) in
    let made = if_is setting blocks r.a n at.0 (is_reached r.a n) refl sound before.raises.fits at.1 in
    let visited = visit_if (is_reached r.a n) setting n (first_result blocks n) at.0 r.a in
    let step = all_step setting blocks a r.a visited.a n (first_result blocks n) (first_result blocks n + length (block_results at.0)) (length (block_results at.0)) at.0 r.changed visited.changed before at.1 made.0 made.1 refl refl in
    let moved = subst (λ m. AllRaised setting blocks a visited.a m (first_result blocks n + length (block_results at.0)) (r.changed || visited.changed)) (add-one n) step in
    subst (λ (o : Option Block). AllRaised setting blocks a (visit_place setting blocks n o r).a (suc n) (first_result blocks (suc n)) (visit_place setting blocks n o r).changed) (sym at.1)
    (subst (λ m. AllRaised setting blocks a visited.a (suc n) m (r.changed || visited.changed)) moved.numbered moved)
  where
    r : Round
    r = visit_blocks setting blocks n a

settled_is : (setting : Setting) (blocks : List Block) (n : ℕ) (a : Assigned) → AreSound setting blocks → Settles setting blocks a true → room a < n → Settles setting blocks (settled setting blocks n a) false
settled_is setting blocks zero a sound h less = absurd (omega arith)
settled_is setting blocks (suc n) a sound h less =
    let all = blocks_are setting blocks a (length blocks) sound h.fits (omega arith) in
    by r.changed refl (settled_is setting blocks n r.a sound) all.raises (settle_step setting blocks a r.a true r.changed h all.raises (all_end setting blocks a r.a (length blocks) (first_result blocks (length blocks)) r.changed (omega arith) all))
  where
    r : Round
    r = visit_blocks setting blocks (length blocks) a

    by : (c : Bool) → r.changed ≡ c → (Settles setting blocks r.a true → room r.a < n → Settles setting blocks (settled setting blocks n r.a) false) → Raises setting blocks a r.a r.changed → Settles setting blocks r.a r.changed
        → Settles setting blocks (cond c (settled setting blocks n r.a) r.a) false
    by true e more raises next =
        let falls : room r.a < room a = raises.falls e in
        more (record { fits = next.fits; below = next.below; closed = λ f. absurd (false≢true (sym f)) }) (omega arith)
    by false e more raises next = record { fits = next.fits; below = next.below; closed = λ f. next.closed e }

-- ---- of a function

pub record IsLeastOf (func : Func) (known : List Known) (a : Assigned) : Type 0 where
  pub of : IsAssignmentOf func a
  pub least : IsLeastClosed (record { known = known }) (blocks_of func) a

pub least_is : (func : Func) (known : List Known) → AreKnownOf func known → IsSoundFunction func → IsLeastOf func known (least_of (record { known = known }) (blocks_of func))
least_is func known are sound =
    let start = settle_start setting blocks (blank blocks Unreached) refl in
    let whole = settled_is setting blocks (suc (room (blank blocks Unreached))) (blank blocks Unreached) (record { few = few_results func sound; typed = all_suit func known are sound }) start (omega arith) in
    record { of = whole.fits; least = settle_end setting blocks (least_of setting blocks) false refl whole }
  where
    setting : Setting
    setting = record { known = known }

    blocks : List Block
    blocks = blocks_of func
