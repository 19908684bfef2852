-- Running calls beside what is left of them: what is known of them holds, and each result that is left has its number.
use Rattle.std.proofs.Common.{◌≡◌, ◌∙◌, ℕ, suc, ◌<◌, ◌≤◌, Bool, true, false, List, [], ◌∷◌, ◌++◌, length, map, drop, Some, slice_get, refl, sym, ap, subst, arith}
use Rattle.std.specs.Prelude.{All, Contains, flat_map, nat_eq, if◌then◌else◌}
use Rattle.std.specs.List.{AllZip}
use Rattle.std.proofs.lemmas.Bool.{eqb-true, eqb-false}
use Rattle.std.proofs.lemmas.List.Elements.{All-tail}
use Rattle.std.proofs.lemmas.Option.{slice_get_within}
use Rattle.ir_syntax.specs.declared.constant.Operand.{Operand}
use Rattle.ir_syntax.specs.declared.body.Inst.{Inst}
use Rattle.ir_syntax.specs.declared.item.Func.{Func}
use Rattle.ir_syntax.specs.declared.item.Item.{Item}
use Rattle.ir_syntax.specs.declared.item.Item.TheVariants as item
use Rattle.ir_syntax.specs.declared.item.Module.{Module}
use Rattle.ir_syntax.specs.Straight.{straight_body}
use Rattle.demands.specs.Demands.{IsFunctionFor}
use Rattle.straight_plan.specs.declared.fact.Fact.{Fact}
use Rattle.straight_plan.specs.declared.cut.Ask.{Ask}
use Rattle.straight_plan.specs.declared.cut.Cut.{Cut}
use Rattle.straight_plan.specs.Folding.{fact_at, IsClosed}
use Rattle.straight_plan.specs.Residual.{put_inst, stays, residual_from}
use Rattle.straight_plan.specs.Asked.{insts_at, is_named, asks, needs}
use Rattle.straight_plan.specs.Left.{asks_of, is_entry, left_inst, left_from}
use Rattle.straight_meaning.specs.declared.value.Val.TheVariants as val
use Rattle.straight_meaning.specs.State.{Value, Register, register, Frame}
use Rattle.straight_meaning.specs.Step.{with_result}
use Rattle.straight_meaning.specs.Kept.{facts_of}
use Rattle.straight_meaning.specs.Matching.{cut_of, left_frame}
use Rattle.straight_meaning.proofs.Ready.{ItemsStraight, head_of}
use Rattle.straight_meaning.proofs.Numbers.{drop_at, drop_more, count_left, count_folded, registers_left, registers_folded}
use Rattle.straight_meaning.proofs.Values.{FactHolds, KnownHolds, Holds}
use Rattle.straight_meaning.proofs.Plans.{of_ask, insts_here}

-- what the laws of a plan rest on
pub record Grounds (m : Module) (start : Ask) (plan : List Cut) : Type 0 where
  pub items : ItemsStraight m
  pub has_start : Contains (asks_of plan) start
  pub folded : All (λ cut. IsClosed cut.ask.pattern (insts_at (slice_get m.items cut.ask.place)) cut.facts) plan
  pub has_needs : All (λ cut. All (Contains (asks_of plan)) (needs m.items cut.ask cut.facts)) plan
  pub functions : All (λ cut. IsFunctionFor cut.ask.pattern (slice_get m.items cut.ask.place)) plan
  -- what a body calls isn't the entry that is left for known arguments
  pub plain : (ask : Ask) → is_named m.items ask.place ≡ true → is_entry start ask ≡ false

abbrev pub insts_of : Module → Ask → List Inst
insts_of m ask = insts_at (slice_get m.items ask.place)

-- the fact of the result k
abbrev pub fact_of : List Cut → Ask → ℕ → Fact
fact_of plan ask k = fact_at (slice_get (facts_of plan ask) k)

-- A call of what is asked for, with the instructions from a place on left.
pub record Stands (m : Module) (plan : List Cut) (ask : Ask) (at : ℕ) (f : Frame) : Type 0 where
  pub place : f.func ≡ ask.place
  pub planned : Contains (asks_of plan) ask
  pub known : Holds ask.pattern (facts_of plan ask) f.next f.args f.registers
  pub rest : drop at (insts_of m ask) ≡ f.rest
  pub within : at ≤ length (insts_of m ask)
  pub needs : All (Contains (asks_of plan)) (flat_map (asks m.items) (residual_from ask.pattern (facts_of plan ask) at f.rest))

-- A call that waits behind its next result, of which nothing is known.
pub record Waits (m : Module) (plan : List Cut) (ask : Ask) (f : Frame) : Type 0 where
  pub stands : Stands m plan ask (suc f.next) f
  pub inst : Inst
  pub here : slice_get (insts_of m ask) f.next ≡ Some inst
  pub stays : stays (fact_of plan ask f.next) inst ≡ true
  pub any : (x : ℕ) → FactHolds (fact_of plan ask f.next) (val.Num x)

abbrev pub WaitingStand : Module → List Cut → List Ask → List Frame → Type 0
WaitingStand m plan [] [] = Unit {0}
WaitingStand m plan [] (f ∷ fs) = ⊥
WaitingStand m plan (ask ∷ running) [] = ⊥
WaitingStand m plan (ask ∷ running) (f ∷ fs) = Waits m plan ask f × WaitingStand m plan running fs

abbrev pub FramesStand : Module → List Cut → List Ask → List Frame → Type 0
FramesStand m plan [] fs = ⊥
FramesStand m plan (ask ∷ running) [] = ⊥
FramesStand m plan (ask ∷ running) (f ∷ fs) = Stands m plan ask f.next f × WaitingStand m plan running fs

-- ---- a call that begins

pub head_stands : (m : Module) (plan : List Cut) (ask : Ask) (place : ℕ) (vs : List Value) (func : Func) (insts : List Inst) (v : Operand) → place ≡ ask.place
    → slice_get m.items ask.place ≡ Some (item.Func func) → func.body ≡ Some (straight_body insts v)
    → All (λ cut. All (Contains (asks_of plan)) (needs m.items cut.ask cut.facts)) plan → Contains (asks_of plan) ask → AllZip KnownHolds ask.pattern vs
    → Stands m plan ask 0 (head_of place vs insts v)
head_stands m plan ask place vs func insts v e at body all c h =
    let here = insts_here m.items ask.place func insts v at body in
    record {
      place = e;
      planned = c;
      known = record { params = h; results = λ j l. absurd (omega arith) };
      rest = here;
      within = omega arith;
      needs = subst (λ is. All (Contains (asks_of plan)) (flat_map (asks m.items) (residual_from ask.pattern (facts_of plan ask) 0 is))) here
          (of_ask (λ cut. All (Contains (asks_of plan)) (needs m.items cut.ask cut.facts)) plan ask all c);
    }

-- ---- one instruction less

all_behind : {X : Type 0} (P : X → Type 0) (xs ys : List X) → All P (xs ++ ys) → All P ys
all_behind P [] ys h = h
all_behind P (x ∷ xs) ys h = all_behind P xs ys (All-tail P x (xs ++ ys) h)

needs_behind : (P : Ask → Type 0) (items : List Item) (i : Inst) (more : List Inst) (b : Bool) → All P (flat_map (asks items) (if b then i ∷ more else more)) → All P (flat_map (asks items) more)
needs_behind P items i more true h = all_behind P (asks items i) (flat_map (asks items) more) h
needs_behind P items i more false h = h

-- the call, once its next instruction is done
pub rest_stands : (m : Module) (plan : List Cut) (ask : Ask) (f : Frame) (i : Inst) (is : List Inst) → Stands m plan ask f.next f → f.rest ≡ i ∷ is → Stands m plan ask (suc f.next) (record f { rest = is })
rest_stands m plan ask f i is h e = record {
  place = h.place;
  planned = h.planned;
  known = h.known;
  rest = drop_more (insts_of m ask) f.next i is (h.rest ∙ e);
  within = slice_get_within (insts_of m ask) f.next i (drop_at (insts_of m ask) f.next i is (h.rest ∙ e));
  needs = needs_behind (Contains (asks_of plan)) m.items (put_inst ask.pattern (facts_of plan ask) i) (residual_from ask.pattern (facts_of plan ask) (suc f.next) is) (stays (fact_of plan ask f.next) i)
      (subst (λ is. All (Contains (asks_of plan)) (flat_map (asks m.items) (residual_from ask.pattern (facts_of plan ask) f.next is))) e h.needs);
}

more_results : (facts : List Fact) (k : ℕ) (w : Value) (rs : List Register) → ((j : ℕ) → j < k → (v : Value) → register j rs ≡ Some v → FactHolds (fact_at (slice_get facts j)) v)
    → FactHolds (fact_at (slice_get facts k)) w → (j : ℕ) → j < suc k → (v : Value) → (b : Bool) → nat_eq k j ≡ b → (if b then Some w else register j rs) ≡ Some v
    → FactHolds (fact_at (slice_get facts j)) v
more_results facts k w rs h f j l v true t e =
    let same : w ≡ v = cc in
    subst (λ n. FactHolds (fact_at (slice_get facts n)) v) (eqb-true k j t) (subst (FactHolds (fact_at (slice_get facts k))) same f)
more_results facts k w rs h f j l v false t e = h j (let apart : k ≡ j → ⊥ = eqb-false k j t in omega arith) v e

-- the call, once its next result is known
pub result_stands : (m : Module) (plan : List Cut) (ask : Ask) (f : Frame) (x : ℕ) → Stands m plan ask (suc f.next) f → FactHolds (fact_of plan ask f.next) (val.Num x)
    → Stands m plan ask (suc f.next) (with_result f (val.Num x))
result_stands m plan ask f x h holds = record {
  place = h.place;
  planned = h.planned;
  known = record {
    params = h.known.params;
    results = λ j l v e. more_results (facts_of plan ask) f.next (val.Num x) f.registers h.known.results holds j l v (nat_eq f.next j) refl e;
  };
  rest = h.rest;
  within = h.within;
  needs = h.needs;
}

-- ---- what is left of it

-- the instruction that is left comes next in what is left
pub rest_left : (m : Module) (start : Ask) (plan : List Cut) (ask : Ask) (f : Frame) (i : Inst) (is : List Inst) → f.rest ≡ i ∷ is → stays (fact_of plan ask f.next) i ≡ true
    → (left_frame m.items start plan ask f.next f).rest
    ≡ left_inst m.items (asks_of plan) start (cut_of plan ask) (insts_of m ask) (put_inst ask.pattern (facts_of plan ask) i) ∷ left_from m.items (asks_of plan) start (cut_of plan ask) (insts_of m ask) (suc f.next) is
rest_left m start plan ask f i is e s =
    ap (left_from m.items (asks_of plan) start (cut_of plan ask) (insts_of m ask) f.next) e
    ∙ ap (λ b. map (left_inst m.items (asks_of plan) start (cut_of plan ask) (insts_of m ask))
    (if b then put_inst ask.pattern (facts_of plan ask) i ∷ residual_from ask.pattern (facts_of plan ask) (suc f.next) is else residual_from ask.pattern (facts_of plan ask) (suc f.next) is)) s

rest_folded : (m : Module) (start : Ask) (plan : List Cut) (ask : Ask) (f : Frame) (i : Inst) (is : List Inst) → f.rest ≡ i ∷ is → stays (fact_of plan ask f.next) i ≡ false
    → (left_frame m.items start plan ask f.next f).rest ≡ left_from m.items (asks_of plan) start (cut_of plan ask) (insts_of m ask) (suc f.next) is
rest_folded m start plan ask f i is e s =
    ap (left_from m.items (asks_of plan) start (cut_of plan ask) (insts_of m ask) f.next) e
    ∙ ap (λ b. map (left_inst m.items (asks_of plan) start (cut_of plan ask) (insts_of m ask))
    (if b then put_inst ask.pattern (facts_of plan ask) i ∷ residual_from ask.pattern (facts_of plan ask) (suc f.next) is else residual_from ask.pattern (facts_of plan ask) (suc f.next) is)) s

-- a result whose instruction is left is a result of what is left
pub result_left : (m : Module) (start : Ask) (plan : List Cut) (ask : Ask) (f : Frame) (v : Value) (i : Inst) → slice_get (insts_of m ask) f.next ≡ Some i → stays (fact_of plan ask f.next) i ≡ true
    → with_result (left_frame m.items start plan ask (suc f.next) f) v ≡ left_frame m.items start plan ask (suc f.next) (with_result f v)
result_left m start plan ask f v i here s =
    let registers = registers_left (facts_of plan ask) (insts_of m ask) f.registers f.next v i here s in
    let next = count_left (facts_of plan ask) f.next (insts_of m ask) i here s in
    λ j. record (left_frame m.items start plan ask (suc f.next) f) { registers = sym registers j; next = next j }

-- and one whose instruction isn't left changes nothing there
pub result_folded : (m : Module) (start : Ask) (plan : List Cut) (ask : Ask) (f : Frame) (v : Value) (i : Inst) (is : List Inst) → f.rest ≡ i ∷ is → slice_get (insts_of m ask) f.next ≡ Some i
    → stays (fact_of plan ask f.next) i ≡ false → left_frame m.items start plan ask f.next f ≡ left_frame m.items start plan ask (suc f.next) (with_result (record f { rest = is }) v)
result_folded m start plan ask f v i is e here s =
    let rest = rest_folded m start plan ask f i is e s in
    let registers = registers_folded (facts_of plan ask) (insts_of m ask) f.registers f.next v i here s in
    let next = count_folded (facts_of plan ask) f.next (insts_of m ask) i here s in
    λ j. record (left_frame m.items start plan ask f.next f) { rest = rest j; registers = sym registers j; next = next j }
