-- One step of the module beside what is left: a step that stays is a step of what is left, another leaves it as it is.
use Rattle.std.proofs.Common.{◌≡◌, ◌∙◌, ◌⊎◌, inl, inr, ℕ, suc, ◌+◌, ◌%◌, ◌^◌, ◌≤◌, Bool, true, false, List, [], ◌∷◌, length, map, Some, slice_get, refl, sym, ap, subst, arith}
use Rattle.std.specs.Prelude.{All, Contains, flat_map, if◌then◌else◌}
use Rattle.std.specs.List.{AllZip}
use Rattle.std.proofs.lemmas.List.Elements.{All-head}
use Rattle.ir_syntax.specs.declared.body.Inst.{Inst}
use Rattle.ir_syntax.specs.declared.item.Module.{Module}
use Rattle.ir_syntax.specs.Straight.{word_type}
use Rattle.straight_plan.specs.declared.fact.Fact.TheVariants.{Varying}
use Rattle.straight_plan.specs.declared.cut.Ask.{Ask}
use Rattle.straight_plan.specs.declared.cut.Cut.{Cut}
use Rattle.straight_plan.specs.Folding.{operand_fact, fact_sum, IsClosed}
use Rattle.straight_plan.specs.Residual.{is_one, put_arg, put_inst, residual_from}
use Rattle.straight_plan.specs.Residual as residual
use Rattle.straight_plan.specs.Asked.{insts_at, asks, asked}
use Rattle.straight_plan.specs.Left.{asks_of, place_of, is_entry, at_unknown, left_params, left_arg, left_operand, left_from, left_term, left_module}
use Rattle.straight_meaning.specs.declared.value.Val.TheVariants as val
use Rattle.straight_meaning.specs.declared.session.Stepped.TheVariants as stepped
use Rattle.straight_meaning.specs.State.{Frame, Memory}
use Rattle.straight_meaning.specs.Step.{Next, call_start, went, with_result, return_step, frames_step}
use Rattle.straight_meaning.specs.Kept.{facts_of, asks_after, asks_after_rest, rest_stays, stays, longest_block}
use Rattle.straight_meaning.specs.Matching.{cut_of, left_frame, left_waiting, left_frames}
use Rattle.straight_meaning.proofs.Ready.{AllWait, FramesReady, addition, call_of, head_of, Adds, Calls, Returns, call_starts, head_ready, does, add_step, call_step, return_steps, result_ready}
use Rattle.straight_meaning.proofs.Numbers.{drop_at}
use Rattle.straight_meaning.proofs.Values.{FactHolds, KnownHolds, holds_above, sum_holds, operand_holds, operand_left, args_left, args_hold, known_args}
use Rattle.straight_meaning.proofs.Plans.{of_ask, left_starts}
use Rattle.straight_meaning.proofs.Bound.{AllShort, top, room, Fits, head_short, moved_fits, left_fits}
use Rattle.straight_meaning.proofs.Entry.{asked_holds, called_named}
use Rattle.straight_meaning.proofs.Standing.{Grounds, insts_of, fact_of, Stands, Waits, WaitingStand, FramesStand, head_stands, rest_stands, result_stands, rest_left, result_left, result_folded}

-- what a step is in what is left: a step where it stays, else nothing
abbrev pub LeftStep : Module → Bool → List Frame → List Frame → Memory → Type 0
LeftStep w true fs gs memory = frames_step w fs memory ≡ Some (went gs memory)
LeftStep w false fs gs memory = fs ≡ gs

-- The root's call goes on.
pub record Moves (m : Module) (start : Ask) (plan : List Cut) (running : List Ask) (fs : List Frame) (memory : Memory) : Type 0 where
  pub asks : List Ask
  pub frames : List Frame
  pub stay : Bool
  pub is : frames_step m fs memory ≡ Some (went frames memory)
  pub asked : asks_after m.items start plan running fs ≡ asks
  pub stayed : stays plan running fs ≡ stay
  pub ready : FramesReady m.items frames
  pub stand : FramesStand m plan asks frames
  pub left : LeftStep (left_module m start plan) stay (left_frames m.items start plan running fs) (left_frames m.items start plan asks frames) memory
  pub spends : (begun kept : ℕ) → Fits (longest_block m) begun kept fs → Fits (longest_block m) (begun + 1) (kept + (if stay then 1 else 0)) frames

abbrev pub returned : ℕ → Memory → Next
returned x memory = (stepped.Returned (Some (val.Num x)), record { frames = []; memory = memory })

-- The root returns.
pub record Leaves (m : Module) (start : Ask) (plan : List Cut) (running : List Ask) (fs : List Frame) (memory : Memory) : Type 0 where
  pub x : ℕ
  pub is : frames_step m fs memory ≡ Some (returned x memory)
  pub asked : asks_after m.items start plan running fs ≡ start ∷ []
  pub stayed : stays plan running fs ≡ true
  pub left : frames_step (left_module m start plan) (left_frames m.items start plan running fs) memory ≡ Some (returned x memory)
  pub spends : (begun kept : ℕ) (gs : List Frame) → AllShort (longest_block m) gs → top gs ≤ room (longest_block m) gs → Fits (longest_block m) begun kept fs
      → Fits (longest_block m) (begun + 1) (kept + 1) gs

abbrev pub Goes : (m : Module) (start : Ask) (plan : List Cut) (running : List Ask) (fs : List Frame) (memory : Memory) → Type 0
Goes m start plan running fs memory = Moves m start plan running fs memory ⊎ Leaves m start plan running fs memory

closed_for : (m : Module) (start : Ask) (plan : List Cut) (ask : Ask) → Grounds m start plan → Contains (asks_of plan) ask → IsClosed ask.pattern (insts_of m ask) (facts_of plan ask)
closed_for m start plan ask g c = of_ask (λ cut. IsClosed cut.ask.pattern (insts_at (slice_get m.items cut.ask.place)) cut.facts) plan ask g.folded c

-- ---- additions

-- the sum is what is known of it
fact_holds : (m : Module) (start : Ask) (plan : List Cut) (ask : Ask) (f : Frame) → Grounds m start plan → Stands m plan ask f.next f → (h : Adds m.items f)
    → slice_get (insts_of m ask) f.next ≡ Some (addition h.a h.b) → FactHolds (fact_of plan ask f.next) (val.Num ((h.x + h.y) % 2 ^ 32))
fact_holds m start plan ask f g s h here =
    let facts = facts_of plan ask in
    let a = operand_fact ask.pattern facts h.a in
    let b = operand_fact ask.pattern facts h.b in
    holds_above (fact_sum a b) (fact_of plan ask f.next) (val.Num ((h.x + h.y) % 2 ^ 32)) ((closed_for m start plan ask g s.planned).closed f.next (addition h.a h.b) here)
    (sum_holds a b h.x h.y (operand_holds ask.pattern facts f.next f.args f.registers h.a (val.Num h.x) s.known h.word_a h.first)
    (operand_holds ask.pattern facts f.next f.args f.registers h.b (val.Num h.y) s.known h.word_b h.second))

add_left : (m : Module) (start : Ask) (plan : List Cut) (ask : Ask) (running : List Ask) (f : Frame) (fs : List Frame) (memory : Memory) (b : Bool) → Stands m plan ask f.next f → (h : Adds m.items f)
    → slice_get (insts_of m ask) f.next ≡ Some (addition h.a h.b) → residual.stays (fact_of plan ask f.next) (addition h.a h.b) ≡ b
    → LeftStep (left_module m start plan) b (left_frames m.items start plan (ask ∷ running) (f ∷ fs))
    (left_frames m.items start plan (ask ∷ running) (with_result (record f { rest = h.is }) (val.Num ((h.x + h.y) % 2 ^ 32)) ∷ fs)) memory
add_left m start plan ask running f fs memory true s h here stay =
    let facts = facts_of plan ask in
    let insts = insts_of m ask in
    let z = val.Num ((h.x + h.y) % 2 ^ 32) in
    add_step (left_module m start plan) (left_frame m.items start plan ask f.next f) (left_waiting m.items start plan running fs) memory
    (left_operand start (cut_of plan ask) insts h.a) (left_operand start (cut_of plan ask) insts h.b)
    (left_from m.items (asks_of plan) start (cut_of plan ask) insts (suc f.next) h.is) h.x h.y
    (rest_left m start plan ask f (addition h.a h.b) h.is h.rest stay)
    (operand_left start ask facts insts f.next f.args f.registers h.a (val.Num h.x) s.known s.within h.word_a h.first)
    (operand_left start ask facts insts f.next f.args f.registers h.b (val.Num h.y) s.known s.within h.word_b h.second)
    ∙ ap (λ (g : Frame). Some (went (g ∷ left_waiting m.items start plan running fs) memory)) (result_left m start plan ask (record f { rest = h.is }) z (addition h.a h.b) here stay)
add_left m start plan ask running f fs memory false s h here stay =
    let z = val.Num ((h.x + h.y) % 2 ^ 32) in
    ap (λ (g : Frame). g ∷ left_waiting m.items start plan running fs) (result_folded m start plan ask f z (addition h.a h.b) h.is h.rest here stay)

add_moves : (m : Module) (start : Ask) (plan : List Cut) (ask : Ask) (running : List Ask) (f : Frame) (fs : List Frame) (memory : Memory) → Grounds m start plan
    → Stands m plan ask f.next f → WaitingStand m plan running fs → AllWait m.items fs → Adds m.items f → Moves m start plan (ask ∷ running) (f ∷ fs) memory
add_moves m start plan ask running f fs memory g s others waits h =
    let z = (h.x + h.y) % 2 ^ 32 in
    let f' = record f { rest = h.is } in
    let here : slice_get (insts_of m ask) f.next ≡ Some (addition h.a h.b) = drop_at (insts_of m ask) f.next (addition h.a h.b) h.is (s.rest ∙ h.rest) in
    record {
      asks = ask ∷ running;
      frames = with_result f' (val.Num z) ∷ fs;
      stay = residual.stays (fact_of plan ask f.next) (addition h.a h.b);
      is = add_step m f fs memory h.a h.b h.is h.x h.y h.rest h.first h.second;
      asked = ap (asks_after_rest m.items start plan ask running) h.rest;
      stayed = ap (rest_stays (facts_of plan ask) f.next) h.rest;
      ready = (result_ready m.items z f' h.waits, waits);
      stand = (result_stands m plan ask f' z (rest_stands m plan ask f (addition h.a h.b) h.is s h.rest) (fact_holds m start plan ask f g s h here), others);
      left = add_left m start plan ask running f fs memory (residual.stays (fact_of plan ask f.next) (addition h.a h.b)) s h here refl;
      spends = λ begun kept fit.
          let count : length f.rest ≡ suc (length h.is) = ap length h.rest in
          let short = fit.0.0 in
          moved_fits (longest_block m) begun kept (residual.stays (fact_of plan ask f.next) (addition h.a h.b)) f fs (with_result f' (val.Num z)) fs
          ((omega (arith, count, short), fit.0.1), omega (arith, count)) fit;
    }

-- ---- calls

-- what the call asks for
abbrev call_ask : (m : Module) (plan : List Cut) (ask : Ask) (f : Frame) → Calls m f → Ask
call_ask m plan ask f h = asked m.items h.place (known_args ask.pattern (facts_of plan ask) h.given)

-- it is in the plan
call_planned : (m : Module) (plan : List Cut) (ask : Ask) (f : Frame) → Stands m plan ask f.next f → (h : Calls m f) → Contains (asks_of plan) (call_ask m plan ask f h)
call_planned m plan ask f s h =
    All-head (Contains (asks_of plan)) (call_ask m plan ask f h) (flat_map (asks m.items) (residual_from ask.pattern (facts_of plan ask) (suc f.next) h.is))
    (subst (λ is. All (Contains (asks_of plan)) (flat_map (asks m.items) (residual_from ask.pattern (facts_of plan ask) f.next is))) h.rest s.needs)

call_known : (m : Module) (plan : List Cut) (ask : Ask) (f : Frame) → Stands m plan ask f.next f → (h : Calls m f) → AllZip KnownHolds (call_ask m plan ask f h).pattern h.passed.vs
call_known m plan ask f s h = asked_holds m.items h.place (known_args ask.pattern (facts_of plan ask) h.given) h.passed.vs
    (args_hold ask.pattern (facts_of plan ask) f.next f.args f.registers h.given h.passed.vs s.known h.words h.passed.each)

call_waits : (m : Module) (start : Ask) (plan : List Cut) (ask : Ask) (f : Frame) → Grounds m start plan → Stands m plan ask f.next f → (h : Calls m f)
    → slice_get (insts_of m ask) f.next ≡ Some (call_of h.fn_ty h.ext h.place h.given) → Waits m plan ask (record f { rest = h.is })
call_waits m start plan ask f g s h here = record {
  stands = rest_stands m plan ask f (call_of h.fn_ty h.ext h.place h.given) h.is s h.rest;
  inst = call_of h.fn_ty h.ext h.place h.given;
  here = here;
  stays = refl;
  any = λ x. holds_above Varying (fact_of plan ask f.next) (val.Num x) ((closed_for m start plan ask g s.planned).closed f.next (call_of h.fn_ty h.ext h.place h.given) here) tt;
}

call_plain : (m : Module) (start : Ask) (plan : List Cut) (ask : Ask) (f : Frame) → Grounds m start plan → Stands m plan ask f.next f → (h : Calls m f)
    → slice_get (insts_of m ask) f.next ≡ Some (call_of h.fn_ty h.ext h.place h.given) → is_entry start (call_ask m plan ask f h) ≡ false
call_plain m start plan ask f g s h here = g.plain (call_ask m plan ask f h) (called_named m.items ask.place f.next h.fn_ty h.ext h.place h.given here)

call_left : (m : Module) (start : Ask) (plan : List Cut) (ask : Ask) (running : List Ask) (f : Frame) (fs : List Frame) (memory : Memory) → Grounds m start plan → Stands m plan ask f.next f → (h : Calls m f)
    → slice_get (insts_of m ask) f.next ≡ Some (call_of h.fn_ty h.ext h.place h.given)
    → frames_step (left_module m start plan) (left_frames m.items start plan (ask ∷ running) (f ∷ fs)) memory
    ≡ Some (went (left_frames m.items start plan (call_ask m plan ask f h ∷ ask ∷ running) (head_of h.place h.passed.vs h.callable.straight.insts h.callable.straight.value ∷ record f { rest = h.is } ∷ fs)) memory)
call_left m start plan ask running f fs memory g s h here =
    let facts = facts_of plan ask in
    let insts = insts_of m ask in
    let need = call_ask m plan ask f h in
    let given = map (left_arg start (cut_of plan ask) insts) (at_unknown need.pattern (map (put_arg ask.pattern facts) h.given)) in
    let count = length (at_unknown need.pattern (map (put_arg ask.pattern facts) h.given)) in
    let params : left_params start need h.passed.vs ≡ at_unknown need.pattern h.passed.vs = ap (λ b. if b then h.passed.vs else at_unknown need.pattern h.passed.vs) (call_plain m start plan ask f g s h here) in
    let straight = h.callable.straight in
    let starts = left_starts m start plan need h.place h.passed.vs h.callable.func straight.insts straight.value h.callable.at straight.body g.functions (call_planned m plan ask f s h) in
    call_step (left_module m start plan) (left_frame m.items start plan ask f.next f) (left_waiting m.items start plan running fs) memory
    (word_type count) h.ext (place_of (asks_of plan) need) given (left_from m.items (asks_of plan) start (cut_of plan ask) insts (suc f.next) h.is) (at_unknown need.pattern h.passed.vs)
    (left_frame m.items start plan need 0 (head_of h.place h.passed.vs straight.insts straight.value))
    (rest_left m start plan ask f (call_of h.fn_ty h.ext h.place h.given) h.is h.rest refl)
    (args_left start ask facts insts f.next f.args f.registers need.pattern h.given h.passed.vs s.known s.within h.words h.passed.each)
    (ap (call_start (left_module m start plan) (place_of (asks_of plan) need)) (sym params) ∙ starts)

call_moves : (m : Module) (start : Ask) (plan : List Cut) (ask : Ask) (running : List Ask) (f : Frame) (fs : List Frame) (memory : Memory) → Grounds m start plan
    → Stands m plan ask f.next f → WaitingStand m plan running fs → AllWait m.items fs → Calls m f → Moves m start plan (ask ∷ running) (f ∷ fs) memory
call_moves m start plan ask running f fs memory g s others waits h =
    let here : slice_get (insts_of m ask) f.next ≡ Some (call_of h.fn_ty h.ext h.place h.given) = drop_at (insts_of m ask) f.next (call_of h.fn_ty h.ext h.place h.given) h.is (s.rest ∙ h.rest) in
    let straight = h.callable.straight in
    let head = head_of h.place h.passed.vs straight.insts straight.value in
    record {
      asks = call_ask m plan ask f h ∷ ask ∷ running;
      frames = head ∷ record f { rest = h.is } ∷ fs;
      stay = true;
      is = call_step m f fs memory h.fn_ty h.ext h.place h.given h.is h.passed.vs head h.rest h.passed.is (call_starts m h.place (length h.passed.vs) h.passed.vs h.callable);
      asked = ap (asks_after_rest m.items start plan ask running) h.rest;
      stayed = ap (rest_stays (facts_of plan ask) f.next) h.rest;
      ready = (head_ready m h.place h.passed.vs h.callable h.passed.numbers, (h.waits, waits));
      stand = (
        head_stands m plan (call_ask m plan ask f h) h.place h.passed.vs h.callable.func straight.insts straight.value refl h.callable.at straight.body g.has_needs (call_planned m plan ask f s h) (call_known m plan ask f s h),
        (call_waits m start plan ask f g s h here, others),
      );
      left = call_left m start plan ask running f fs memory g s h here;
      spends = λ begun kept fit.
          let count : length f.rest ≡ suc (length h.is) = ap length h.rest in
          let short = fit.0.0 in
          let first = head_short m h.place h.callable.func straight.insts straight.value h.callable.at straight.body in
          moved_fits (longest_block m) begun kept true f fs head (record f { rest = h.is } ∷ fs) ((first, (omega (arith, count, short), fit.0.1)), omega (arith, count, first)) fit;
    }

-- ---- returns

left_returns : (m : Module) (start : Ask) (plan : List Cut) (ask : Ask) (f : Frame) (fs : List Frame) (memory : Memory) → Stands m plan ask f.next f → (h : Returns f)
    → frames_step (left_module m start plan) (left_frame m.items start plan ask f.next f ∷ fs) memory ≡ return_step fs memory (val.Num h.x)
left_returns m start plan ask f fs memory s h =
    return_steps (left_module m start plan) (left_frame m.items start plan ask f.next f) fs memory (left_operand start (cut_of plan ask) (insts_of m ask) h.operand) h.x
    (ap (left_from m.items (asks_of plan) start (cut_of plan ask) (insts_of m ask) f.next) h.rest)
    (ap (left_term start (cut_of plan ask) (insts_of m ask)) h.last)
    (operand_left start ask (facts_of plan ask) (insts_of m ask) f.next f.args f.registers h.operand (val.Num h.x) s.known s.within h.word h.returned)

return_moves : (m : Module) (start : Ask) (plan : List Cut) (ask : Ask) (running : List Ask) (f : Frame) (fs : List Frame) (memory : Memory) → Stands m plan ask f.next f
    → WaitingStand m plan running fs → AllWait m.items fs → Returns f → Goes m start plan (ask ∷ running) (f ∷ fs) memory
return_moves m start plan ask [] f [] memory s others waits h = inr (record {
  x = h.x;
  is = return_steps m f [] memory h.operand h.x h.rest h.last h.returned;
  asked = ap (asks_after_rest m.items start plan ask []) h.rest;
  stayed = ap (rest_stays (facts_of plan ask) f.next) h.rest;
  left = left_returns m start plan ask f [] memory s h;
  spends = λ begun kept gs short fits fit. left_fits (longest_block m) begun kept f [] gs short fits (ap (λ (is : List Inst). suc (length is)) h.rest) fit;
})
return_moves m start plan ask [] f (g ∷ gs) memory s others waits h = absurd others
return_moves m start plan ask (other ∷ running) f [] memory s others waits h = absurd others
return_moves m start plan ask (other ∷ running) f (g ∷ gs) memory s others waits h = inl (record {
  asks = other ∷ running;
  frames = with_result g (val.Num h.x) ∷ gs;
  stay = true;
  is = return_steps m f (g ∷ gs) memory h.operand h.x h.rest h.last h.returned;
  asked = ap (asks_after_rest m.items start plan ask (other ∷ running)) h.rest;
  stayed = ap (rest_stays (facts_of plan ask) f.next) h.rest;
  ready = (result_ready m.items h.x g waits.0, waits.1);
  stand = (result_stands m plan other g h.x others.0.stands (others.0.any h.x), others.1);
  left = left_returns m start plan ask f (left_waiting m.items start plan (other ∷ running) (g ∷ gs)) memory s h
      ∙ ap (λ (r : Frame). Some (went (r ∷ left_waiting m.items start plan running gs) memory)) (result_left m start plan other g (val.Num h.x) others.0.inst others.0.here others.0.stays);
  spends = λ begun kept fit.
      let short = fit.0.1.0 in
      moved_fits (longest_block m) begun kept true f (g ∷ gs) (with_result g (val.Num h.x)) gs (fit.0.1, omega (arith, short)) fit;
})

pub frames_go : (m : Module) (start : Ask) (plan : List Cut) (running : List Ask) (fs : List Frame) (memory : Memory) → Grounds m start plan → FramesStand m plan running fs
    → FramesReady m.items fs → Goes m start plan running fs memory
frames_go m start plan [] fs memory g s r = absurd s
frames_go m start plan (ask ∷ running) [] memory g s r = absurd s
frames_go m start plan (ask ∷ running) (f ∷ fs) memory g s r = elim (does m f g.items r.0) [
  | inl h ↦ inl (add_moves m start plan ask running f fs memory g s.0 s.1 r.1 h)
  | inr o ↦ elim o [
    | inl h ↦ inl (call_moves m start plan ask running f fs memory g s.0 s.1 r.1 h)
    | inr h ↦ return_moves m start plan ask running f fs memory s.0 s.1 r.1 h
  ]
]
