-- The run of what is left beside the run of the module.
use Rattle.std.proofs.Common.{◌≡◌, ◌≢◌, ◌∙◌, inl, inr, ℕ, zero, suc, ◌+◌, ◌*◌, ◌≤◌, Bool, true, false, List, [], ◌∷◌, ◌++◌, length, map, Option, Some, None, slice_get, refl, sym, ap, subst, arith}
use Rattle.std.specs.Prelude.{◌/◌, All, ◌&&◌, option_map, option_and_then, if◌then◌else◌}
use Rattle.std.proofs.lemmas.List.Elements.{All-head, All-tail}
use Rattle.ir_types.specs.declared.scalar.Known.{Known}
use Rattle.ir_syntax.specs.declared.item.Item.{Item}
use Rattle.ir_syntax.specs.declared.item.Item.TheVariants as item
use Rattle.ir_syntax.specs.declared.item.Module.{Module}
use Rattle.ir_syntax.specs.FormedBody.{item_name}
use Rattle.demands.specs.Demands.{IsFunctionFor}
use Rattle.straight_plan.specs.declared.cut.Ask.{Ask}
use Rattle.straight_plan.specs.declared.cut.Cut.{Cut}
use Rattle.straight_plan.specs.Asked.{is_named, root}
use Rattle.straight_plan.specs.Left.{asks_of, place_of, left_module}
use Rattle.straight_meaning.specs.declared.value.Val.TheVariants as val
use Rattle.straight_meaning.specs.declared.session.Stepped.{Stepped}
use Rattle.straight_meaning.specs.declared.session.Stepped.TheVariants as stepped
use Rattle.straight_meaning.specs.declared.session.Root.{Root}
use Rattle.straight_meaning.specs.declared.session.Reply.{Reply}
use Rattle.straight_meaning.specs.declared.session.Session.{Session}
use Rattle.straight_meaning.specs.declared.session.Event.{Event}
use Rattle.straight_meaning.specs.declared.session.Event.TheVariants as event
use Rattle.straight_meaning.specs.declared.session.Phase.TheVariants as phase
use Rattle.straight_meaning.specs.State.{Frame, Memory, State}
use Rattle.straight_meaning.specs.Step.{Next, call_start, step}
use Rattle.straight_meaning.specs.Run.{Moment, enter, after, is_running, advance, first_memory, moment, begins, begun, IsCallOf, Conforms}
use Rattle.straight_meaning.specs.Kept.{asks_after, asks_at, running_asks, stays, keeps, kept_steps, place_in, root_in, session_in, Seen, seen, Agree, longest_block}
use Rattle.straight_meaning.specs.Matching.{left_frames, left_root, left_moment}
use Rattle.straight_meaning.specs.Lawful.{first_byte, IsFor}
use Rattle.straight_meaning.proofs.Ready.{Callable, call_starts, head_ready}
use Rattle.straight_meaning.proofs.Running.{numbers, are_numbers, entered, root_frame, RootsReady, MomentReady, items_straight, entry_callable, roots_ready}
use Rattle.straight_meaning.proofs.Plans.{all_at, of_ask, left_starts}
use Rattle.straight_meaning.proofs.Bound.{AllShort, top, room, Fits, head_short, stopped_fits, fits_bound}
use Rattle.straight_meaning.proofs.Entry.{root_place, root_holds, root_named, called_plain, entry_params, entry_found}
use Rattle.straight_meaning.proofs.Standing.{Grounds, FramesStand, head_stands}
use Rattle.straight_meaning.proofs.Moving.{LeftStep, Moves, Leaves, frames_go}

-- a lawful plan, as the proofs use it
pub record Law (m : Module) (entry : ℕ) (args : List Known) (start : Ask) (plan : List Cut) : Type 0 where
  pub grounds : Grounds m start plan
  pub callable : Callable m entry (length args)
  pub rooted : start ≡ root m.items entry args

-- the session, with each root at its new place
abbrev pub moved_session : Ask → List Cut → Session → Session
moved_session start plan s = record s { roots = map (left_root start plan) s.roots }

-- ---- roots

pub record Enters (m : Module) (entry : ℕ) (args : List Known) (start : Ask) (plan : List Cut) (memory : Memory) (roots : List Root) (replies : List Reply) (trace : List Event) (steps kept : ℕ) : Type 0 where
  pub next : Moment
  pub is : enter m memory roots replies trace steps ≡ Some next
  pub ready : MomentReady m next
  pub stand : next.phase ≡ phase.Running → FramesStand m plan (start ∷ []) next.state.frames
  pub calls : All (IsCallOf entry args) next.roots
  pub left : enter (left_module m start plan) memory (map (left_root start plan) roots) replies trace kept ≡ Some (left_moment m.items start plan (start ∷ []) kept next)
  pub short : AllShort (longest_block m) next.state.frames
  pub fits : top next.state.frames ≤ room (longest_block m) next.state.frames

pub enters : (m : Module) (entry : ℕ) (args : List Known) (start : Ask) (plan : List Cut) (memory : Memory) (roots : List Root) (replies : List Reply) (trace : List Event) (steps kept : ℕ)
    → Law m entry args start plan → All (IsCallOf entry args) roots → RootsReady m roots → Enters m entry args start plan memory roots replies trace steps kept
enters m entry args start plan memory [] replies trace steps kept law c r = record {
  next = record { state = record { frames = []; memory = memory }; roots = []; replies = replies; trace = trace; phase = phase.Finished; steps = steps };
  is = refl;
  ready = record { roots = tt; goes = inr refl };
  stand = λ e. let wrong : phase.Finished ≡ phase.Running = e in absurd (cc);
  calls = c;
  left = refl;
  short = tt;
  fits = omega arith;
}
enters m entry args start plan memory (root ∷ roots) replies trace steps kept law c r =
    let g = law.grounds in
    let vs = numbers root.args in
    let call = All-head (IsCallOf entry args) root roots c in
    let place : root.func.item ≡ start.place = call.entered ∙ sym (root_place m.items start entry args law.rooted) in
    let at = ap (slice_get m.items) (sym place) ∙ r.0.at in
    let body = r.0.straight.body in
    let known = root_holds m.items start entry args root.args law.rooted call.suits in
    let f = root_frame m root r.0 in
    let first = head_short m root.func.item r.0.func r.0.straight.insts r.0.straight.value r.0.at body in
    let starts = ap (call_start (left_module m start plan) (place_of (asks_of plan) start)) (sym (entry_params start vs known))
    ∙ left_starts m start plan start root.func.item vs r.0.func r.0.straight.insts r.0.straight.value at body g.functions g.has_start in
    record {
      next = entered memory roots replies trace steps f;
      is = ap (option_map (entered memory roots replies trace steps)) (call_starts m root.func.item (length vs) vs r.0);
      ready = record { roots = r.1; goes = inl (refl, (head_ready m root.func.item vs r.0 (are_numbers root.args), tt)) };
      stand = λ e. (head_stands m plan start root.func.item vs r.0.func r.0.straight.insts r.0.straight.value place at body g.has_needs g.has_start known, tt);
      calls = All-tail (IsCallOf entry args) root roots c;
      left = ap (option_map (entered memory (map (left_root start plan) roots) replies trace kept)) starts;
      short = (first, tt);
      fits = first;
    }

-- ---- one step

abbrev pub LeftAdvance : Module → Bool → Moment → Moment → Type 0
LeftAdvance w true x y = advance w x ≡ Some y
LeftAdvance w false x y = x ≡ y

pub record Advances (m : Module) (entry : ℕ) (args : List Known) (start : Ask) (plan : List Cut) (running : List Ask) (kept : ℕ) (x : Moment) : Type 0 where
  pub next : Moment
  pub asks : List Ask
  pub stay : Bool
  pub is : advance m x ≡ Some next
  pub asked : asks_at m.items start plan running (Some x) ≡ asks
  pub stayed : keeps plan running (Some x) ≡ stay
  pub ready : MomentReady m next
  pub stand : next.phase ≡ phase.Running → FramesStand m plan asks next.state.frames
  pub calls : All (IsCallOf entry args) next.roots
  pub left : LeftAdvance (left_module m start plan) stay (left_moment m.items start plan running kept x) (left_moment m.items start plan asks (kept + (if stay then 1 else 0)) next)
  pub spends : (begun : ℕ) → Fits (longest_block m) begun kept x.state.frames → Fits (longest_block m) (begun + (if is_running x.phase then 1 else 0)) (kept + (if stay then 1 else 0)) next.state.frames

-- a running moment does its step
runs : (m : Module) (x : Moment) (a : Stepped) (t : State) → x.phase ≡ phase.Running → step m x.state ≡ Some (a, t) → advance m x ≡ after m x a t
runs m x a t p e = ap (λ b. if b then option_and_then (λ (n : Next). after m x n.0 n.1) (step m x.state) else Some x) (ap is_running p)
    ∙ ap (option_and_then (λ (n : Next). after m x n.0 n.1)) e

asks_run : (m : Module) (start : Ask) (plan : List Cut) (running : List Ask) (x : Moment) → x.phase ≡ phase.Running
    → asks_at m.items start plan running (Some x) ≡ asks_after m.items start plan running x.state.frames
asks_run m start plan running x p = ap (λ b. if b then asks_after m.items start plan running x.state.frames else running) (ap is_running p)

keeps_run : (plan : List Cut) (running : List Ask) (x : Moment) → x.phase ≡ phase.Running → keeps plan running (Some x) ≡ stays plan running x.state.frames
keeps_run plan running x p = ap (λ b. b && stays plan running x.state.frames) (ap is_running p)

move_left : (m : Module) (start : Ask) (plan : List Cut) (running asks : List Ask) (kept : ℕ) (x : Moment) (frames : List Frame) (b : Bool) → x.phase ≡ phase.Running
    → LeftStep (left_module m start plan) b (left_frames m.items start plan running x.state.frames) (left_frames m.items start plan asks frames) x.state.memory
    → LeftAdvance (left_module m start plan) b (left_moment m.items start plan running kept x)
    (left_moment m.items start plan asks (kept + (if b then 1 else 0)) (record x { state = record { frames = frames; memory = x.state.memory }; steps = suc x.steps }))
move_left m start plan running asks kept x frames true p h =
    let one : suc kept ≡ kept + 1 = omega arith in
    runs (left_module m start plan) (left_moment m.items start plan running kept x) stepped.Went (record { frames = left_frames m.items start plan asks frames; memory = x.state.memory }) p h
    ∙ ap (λ k. Some (left_moment m.items start plan asks k (record x { state = record { frames = frames; memory = x.state.memory }; steps = suc x.steps }))) one
move_left m start plan running asks kept x frames false p h =
    let none : kept ≡ kept + 0 = omega arith in
    λ i. record x { state = record { frames = h i; memory = x.state.memory }; roots = map (left_root start plan) x.roots; steps = none i }

moves : (m : Module) (entry : ℕ) (args : List Known) (start : Ask) (plan : List Cut) (running : List Ask) (kept : ℕ) (x : Moment) → x.phase ≡ phase.Running → RootsReady m x.roots
    → All (IsCallOf entry args) x.roots → Moves m start plan running x.state.frames x.state.memory → Advances m entry args start plan running kept x
moves m entry args start plan running kept x p roots calls h = record {
  next = record x { state = record { frames = h.frames; memory = x.state.memory }; steps = suc x.steps };
  asks = h.asks;
  stay = h.stay;
  is = runs m x stepped.Went (record { frames = h.frames; memory = x.state.memory }) p h.is;
  asked = asks_run m start plan running x p ∙ h.asked;
  stayed = keeps_run plan running x p ∙ h.stayed;
  ready = record { roots = roots; goes = inl (p, h.ready) };
  stand = λ e. h.stand;
  calls = calls;
  left = move_left m start plan running h.asks kept x h.frames h.stay p h.left;
  spends = λ begun fit. subst (λ b. Fits (longest_block m) (begun + (if b then 1 else 0)) (kept + (if h.stay then 1 else 0)) h.frames) (sym (ap is_running p)) (h.spends begun kept fit);
}

leaves : (m : Module) (entry : ℕ) (args : List Known) (start : Ask) (plan : List Cut) (running : List Ask) (kept : ℕ) (x : Moment) → Law m entry args start plan → x.phase ≡ phase.Running
    → RootsReady m x.roots → All (IsCallOf entry args) x.roots → Leaves m start plan running x.state.frames x.state.memory → Advances m entry args start plan running kept x
leaves m entry args start plan running kept x law p roots calls h =
    let v = Some (val.Num h.x) in
    let t : State = record { frames = []; memory = x.state.memory } in
    let e = enters m entry args start plan x.state.memory x.roots x.replies (x.trace ++ event.Returned v ∷ []) (suc x.steps) (suc kept) law calls roots in
    let one : suc kept ≡ kept + 1 = omega arith in
    record {
      next = e.next;
      asks = start ∷ [];
      stay = true;
      is = runs m x (stepped.Returned v) t p h.is ∙ e.is;
      asked = asks_run m start plan running x p ∙ h.asked;
      stayed = keeps_run plan running x p ∙ h.stayed;
      ready = e.ready;
      stand = e.stand;
      calls = e.calls;
      left = runs (left_module m start plan) (left_moment m.items start plan running kept x) (stepped.Returned v) t p h.left ∙ e.left
          ∙ ap (λ k. Some (left_moment m.items start plan (start ∷ []) k e.next)) one;
      spends = λ begun fit. subst (λ b. Fits (longest_block m) (begun + (if b then 1 else 0)) (kept + 1) e.next.state.frames) (sym (ap is_running p))
          (h.spends begun kept e.next.state.frames e.short e.fits fit);
    }

stops : (m : Module) (entry : ℕ) (args : List Known) (start : Ask) (plan : List Cut) (running : List Ask) (kept : ℕ) (x : Moment) → x.phase ≡ phase.Finished → MomentReady m x
    → All (IsCallOf entry args) x.roots → Advances m entry args start plan running kept x
stops m entry args start plan running kept x p ready calls =
    let none : kept ≡ kept + 0 = omega arith in
    record {
      next = x;
      asks = running;
      stay = false;
      is = ap (λ b. if b then option_and_then (λ (n : Next). after m x n.0 n.1) (step m x.state) else Some x) (ap is_running p);
      asked = ap (λ b. if b then asks_after m.items start plan running x.state.frames else running) (ap is_running p);
      stayed = ap (λ b. b && stays plan running x.state.frames) (ap is_running p);
      ready = ready;
      stand = λ e. let wrong : phase.Finished ≡ phase.Running = sym p ∙ e in absurd (cc);
      calls = calls;
      left = ap (λ k. left_moment m.items start plan running k x) none;
      spends = λ begun fit. subst (λ b. Fits (longest_block m) (begun + (if b then 1 else 0)) (kept + 0) x.state.frames) (sym (ap is_running p))
          (stopped_fits (longest_block m) begun kept x.state.frames fit);
    }

pub advances : (m : Module) (entry : ℕ) (args : List Known) (start : Ask) (plan : List Cut) (running : List Ask) (kept : ℕ) (x : Moment) → Law m entry args start plan → MomentReady m x
    → (x.phase ≡ phase.Running → FramesStand m plan running x.state.frames) → All (IsCallOf entry args) x.roots → Advances m entry args start plan running kept x
advances m entry args start plan running kept x law ready stand calls = elim ready.goes [
  | inl r ↦ elim (frames_go m start plan running x.state.frames x.state.memory law.grounds (stand r.0) r.1) [
    | inl h ↦ moves m entry args start plan running kept x r.0 ready.roots calls h
    | inr h ↦ leaves m entry args start plan running kept x law r.0 ready.roots calls h
  ]
  | inr f ↦ stops m entry args start plan running kept x f ready calls
]

-- ---- runs

pub record Matched (m : Module) (entry : ℕ) (args : List Known) (start : Ask) (plan : List Cut) (s : Session) (n : ℕ) : Type 0 where
  pub at : Moment
  pub is : moment m s n ≡ Some at
  pub ready : MomentReady m at
  pub stand : at.phase ≡ phase.Running → FramesStand m plan (running_asks m start plan s n) at.state.frames
  pub calls : All (IsCallOf entry args) at.roots
  pub left : moment (left_module m start plan) (moved_session start plan s) (kept_steps m start plan s n)
      ≡ Some (left_moment m.items start plan (running_asks m start plan s n) (kept_steps m start plan s n) at)
  pub fits : Fits (longest_block m) (begun m s n) (kept_steps m start plan s n) at.state.frames

after_left : (w : Module) (t : Session) (k : ℕ) (b : Bool) (x y : Moment) → moment w t k ≡ Some x → LeftAdvance w b x y → moment w t (k + (if b then 1 else 0)) ≡ Some y
after_left w t k true x y e h = let one : k + 1 ≡ suc k = omega arith in ap (moment w t) one ∙ ap (option_and_then (advance w)) e ∙ h
after_left w t k false x y e h = let none : k + 0 ≡ k = omega arith in ap (moment w t) none ∙ e ∙ ap (λ z. Some z) h

matched_more : (m : Module) (entry : ℕ) (args : List Known) (start : Ask) (plan : List Cut) (s : Session) (n : ℕ) → (h : Matched m entry args start plan s n)
    → Advances m entry args start plan (running_asks m start plan s n) (kept_steps m start plan s n) h.at → Matched m entry args start plan s (suc n)
matched_more m entry args start plan s n h a =
    let w = left_module m start plan in
    let t = moved_session start plan s in
    let running = running_asks m start plan s n in
    let kept = kept_steps m start plan s n in
    let asks : running_asks m start plan s (suc n) ≡ a.asks = ap (asks_at m.items start plan running) h.is ∙ a.asked in
    let count : kept_steps m start plan s (suc n) ≡ kept + (if a.stay then 1 else 0) = ap (λ o. kept + (if keeps plan running o then 1 else 0)) h.is ∙ ap (λ b. kept + (if b then 1 else 0)) a.stayed in
    record {
      at = a.next;
      is = ap (option_and_then (advance m)) h.is ∙ a.is;
      ready = a.ready;
      stand = λ e. subst (λ asks. FramesStand m plan asks a.next.state.frames) (sym asks) (a.stand e);
      calls = a.calls;
      left = subst (λ k. moment w t k ≡ Some (left_moment m.items start plan (running_asks m start plan s (suc n)) k a.next)) (sym count)
          (subst (λ asks. moment w t (kept + (if a.stay then 1 else 0)) ≡ Some (left_moment m.items start plan asks (kept + (if a.stay then 1 else 0)) a.next)) (sym asks)
          (after_left w t kept a.stay (left_moment m.items start plan running kept h.at) (left_moment m.items start plan a.asks (kept + (if a.stay then 1 else 0)) a.next) h.left a.left));
      fits = subst (λ k. Fits (longest_block m) (begun m s (suc n)) k a.next.state.frames) (sym count)
          (subst (λ b. Fits (longest_block m) (begun m s n + (if b then 1 else 0)) (kept + (if a.stay then 1 else 0)) a.next.state.frames) (sym (ap begins h.is)) (a.spends (begun m s n) h.fits));
    }

begins_fit : (longest : ℕ) (fs : List Frame) → top fs ≤ room longest fs → 0 + top fs ≤ longest * 0 + room longest fs
begins_fit longest fs h = omega (arith, h)

pub matched : (m : Module) (entry : ℕ) (args : List Known) (start : Ask) (plan : List Cut) (s : Session) (n : ℕ) → Law m entry args start plan → Conforms entry args s
    → RootsReady m s.roots → Matched m entry args start plan s n
matched m entry args start plan s zero law c r =
    let e = enters m entry args start plan first_memory s.roots s.replies [] 0 0 law c r in
    record { at = e.next; is = e.is; ready = e.ready; stand = e.stand; calls = e.calls; left = e.left; fits = (e.short, begins_fit (longest_block m) e.next.state.frames e.fits) }
matched m entry args start plan s (suc n) law c r =
    let h = matched m entry args start plan s n law c r in
    matched_more m entry args start plan s n h
    (advances m entry args start plan (running_asks m start plan s n) (kept_steps m start plan s n) h.at law h.ready h.stand h.calls)

-- ---- lawful plans

pub lawful : (m : Module) (entry : ℕ) (args : List Known) (start : Ask) (plan : List Cut) → IsFor m entry args start plan → Law m entry args start plan
lawful m entry args start plan h =
    let items = items_straight m h.straight in
    record {
      grounds = record {
        items = items;
        has_start = h.planned.has_start;
        folded = h.planned.folded;
        has_needs = h.planned.has_needs;
        functions = h.planned.functions;
        plain = λ ask named. called_plain start ask (λ same. root_named m.items start entry args h.rooted
            (subst (λ k. is_named m.items k ≡ true) (same ∙ root_place m.items start entry args h.rooted) named));
      };
      callable = entry_callable m entry args items h.takes;
      rooted = h.rooted;
    }

pub roots_of : (m : Module) (entry : ℕ) (args : List Known) (start : Ask) (plan : List Cut) (s : Session) → Law m entry args start plan → Conforms entry args s → RootsReady m s.roots
roots_of m entry args start plan s law c = roots_ready m entry args s.roots law.callable c

new_place : (m : Module) (entry : ℕ) (args : List Known) (start : Ask) (plan : List Cut) → IsFor m entry args start plan → place_in m (left_module m start plan) entry ≡ place_of (asks_of plan) start
new_place m entry args start plan h =
    let law = lawful m entry args start plan h in
    let place = root_place m.items start entry args h.rooted in
    let at = ap (slice_get m.items) place ∙ law.callable.at in
    subst (λ k. place_in m (left_module m start plan) k ≡ place_of (asks_of plan) start) place
    (entry_found m start plan law.callable.func (record {
      distinct = h.straight.distinct;
      apart = all_at (λ i. first_byte (item_name i) ≢ Some 40) m.items start.place (item.Func law.callable.func) h.apart at;
      entry_at = at;
      takes = of_ask (λ cut. IsFunctionFor cut.ask.pattern (slice_get m.items cut.ask.place)) plan start h.planned.functions h.planned.has_start;
      functions = h.planned.functions;
      alone = h.planned.alone;
      has_start = h.planned.has_start;
    }))

roots_in : (m : Module) (entry : ℕ) (args : List Known) (start : Ask) (plan : List Cut) (roots : List Root) → place_in m (left_module m start plan) entry ≡ place_of (asks_of plan) start
    → All (IsCallOf entry args) roots → map (root_in m (left_module m start plan)) roots ≡ map (left_root start plan) roots
roots_in m entry args start plan [] e c = refl
roots_in m entry args start plan (root ∷ roots) e c =
    let here = ap (place_in m (left_module m start plan)) (All-head (IsCallOf entry args) root roots c).entered ∙ e in
    let rest = roots_in m entry args start plan roots e (All-tail (IsCallOf entry args) root roots c) in
    λ i. record root { func = record root.func { item = here i } } ∷ rest i

pub session_moved : (m : Module) (entry : ℕ) (args : List Known) (start : Ask) (plan : List Cut) (s : Session) → IsFor m entry args start plan → Conforms entry args s
    → session_in m (left_module m start plan) s ≡ moved_session start plan s
session_moved m entry args start plan s h c = ap (λ rs. record s { roots = rs }) (roots_in m entry args start plan s.roots (new_place m entry args start plan h) c)

matched_for : (m : Module) (entry : ℕ) (args : List Known) (start : Ask) (plan : List Cut) (s : Session) (n : ℕ) → IsFor m entry args start plan → Conforms entry args s → Matched m entry args start plan s n
matched_for m entry args start plan s n h c =
    let law = lawful m entry args start plan h in
    matched m entry args start plan s n law c (roots_of m entry args start plan s law c)

pub runs_match : (m : Module) (entry : ℕ) (args : List Known) (start : Ask) (plan : List Cut) (s : Session) (n : ℕ) → IsFor m entry args start plan → Conforms entry args s
    → moment (left_module m start plan) (session_in m (left_module m start plan) s) (kept_steps m start plan s n)
    ≡ option_map (left_moment m.items start plan (running_asks m start plan s n) (kept_steps m start plan s n)) (moment m s n)
runs_match m entry args start plan s n h c =
    let d = matched_for m entry args start plan s n h c in
    ap (λ t. moment (left_module m start plan) t (kept_steps m start plan s n)) (session_moved m entry args start plan s h c) ∙ d.left
    ∙ sym (ap (option_map (left_moment m.items start plan (running_asks m start plan s n) (kept_steps m start plan s n))) d.is)

-- what the outside sees of a moment
abbrev at : Option Moment → Option Seen
at o = option_map (λ x. (x.trace, x.phase)) o

seen_moment : (o : Option Moment) → seen (option_map (λ x. record { trace = x.trace; phase = x.phase; steps = x.steps }) o) ≡ at o
seen_moment None = refl
seen_moment (Some x) = refl

at_left : (items : List Item) (start : Ask) (plan : List Cut) (running : List Ask) (kept : ℕ) (o : Option Moment) → at (option_map (left_moment items start plan running kept) o) ≡ at o
at_left items start plan running kept None = refl
at_left items start plan running kept (Some x) = refl

pub agree : (m : Module) (entry : ℕ) (args : List Known) (start : Ask) (plan : List Cut) (s : Session) → IsFor m entry args start plan → Conforms entry args s → Agree m (left_module m start plan) start plan s
agree m entry args start plan s h c = λ n.
    let w = left_module m start plan in
    let kept = kept_steps m start plan s n in
    seen_moment (moment w (session_in m w s) kept) ∙ ap at (runs_match m entry args start plan s n h c)
    ∙ at_left m.items start plan (running_asks m start plan s n) kept (moment m s n) ∙ sym (seen_moment (moment m s n))

pub bound : (m : Module) (entry : ℕ) (args : List Known) (start : Ask) (plan : List Cut) (s : Session) (n : ℕ) → IsFor m entry args start plan → Conforms entry args s
    → begun m s n / longest_block m ≤ kept_steps m start plan s n
bound m entry args start plan s n h c =
    let d = matched_for m entry args start plan s n h c in
    fits_bound (longest_block m) (begun m s n) (kept_steps m start plan s n) d.at.state.frames d.fits
