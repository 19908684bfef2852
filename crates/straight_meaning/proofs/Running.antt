-- No run of a module of straight-line functions is stuck.
use Rattle.std.proofs.Common.{◌≡◌, ◌∙◌, ◌⊎◌, inl, inr, ℕ, zero, suc, ◌+◌, ◌%◌, ◌^◌, List, [], ◌∷◌, ◌++◌, length, map, Option, Some, None, slice_get, refl, sym, ap, subst}
use Rattle.std.specs.Prelude.{All, option_map, option_and_then, IsSome, IfSome, is_some, if◌then◌else◌}
use Rattle.std.specs.List.{AllZip}
use Rattle.std.proofs.lemmas.List.Elements.{All-head, All-tail}
use Rattle.std.proofs.lemmas.List.{length-map}
use Rattle.ir_types.specs.declared.scalar.Known.{Known}
use Rattle.ir_syntax.specs.declared.item.Item.{Item}
use Rattle.ir_syntax.specs.declared.item.Item.TheVariants as item
use Rattle.ir_syntax.specs.declared.item.Module.{Module}
use Rattle.ir_syntax.specs.Straight.{IsStraight, IsStraightItem}
use Rattle.demands.specs.Demands.{IsKnownOf, IsFunctionFor}
use Rattle.straight_meaning.specs.declared.value.Val.TheVariants as val
use Rattle.straight_meaning.specs.declared.session.Stepped.{Stepped}
use Rattle.straight_meaning.specs.declared.session.Stepped.TheVariants as stepped
use Rattle.straight_meaning.specs.declared.session.Root.{Root}
use Rattle.straight_meaning.specs.declared.session.Reply.{Reply}
use Rattle.straight_meaning.specs.declared.session.Session.{Session}
use Rattle.straight_meaning.specs.declared.session.Event.{Event}
use Rattle.straight_meaning.specs.declared.session.Event.TheVariants as event
use Rattle.straight_meaning.specs.declared.session.Phase.TheVariants as phase
use Rattle.straight_meaning.specs.declared.session.Run.{Run}
use Rattle.straight_meaning.specs.State.{Value, Frame, Memory, State}
use Rattle.straight_meaning.specs.Step.{Next, with_result, return_step, frames_step, step, Steps}
use Rattle.straight_meaning.specs.Run.{Moment, enter, after, is_running, advance, first_memory, moment, run, SuitsKnown, IsCallOf, Conforms}
use Rattle.straight_meaning.proofs.Ready.{AreNumbers, AllWait, FramesReady, head_of, Callable, call_starts, head_ready, Adds, Calls, ItemsStraight, does, add_step, call_step, return_steps, result_ready}

-- how a step goes on: the call still runs, or the root returns
abbrev pub Goes : List Item → Stepped → State → Type 0
Goes items stepped.Went s = FramesReady items s.frames
Goes items (stepped.Wants w) s = ⊥
Goes items (stepped.Returned v) s = Unit {0}
Goes items (stepped.Exited e) s = ⊥
Goes items stepped.Aborted s = ⊥
Goes items (stepped.Undefined c) s = ⊥

pub record GoesOn (items : List Item) (o : Option Next) : Type 0 where
  pub answer : Stepped
  pub next : State
  pub is : o ≡ Some (answer, next)
  pub goes : Goes items answer next

add_goes : (m : Module) (f : Frame) (fs : List Frame) (memory : Memory) → Adds m.items f → AllWait m.items fs → GoesOn m.items (frames_step m (f ∷ fs) memory)
add_goes m f fs memory h others = record {
  answer = stepped.Went;
  next = record { frames = with_result (record f { rest = h.is }) (val.Num ((h.x + h.y) % 2 ^ 32)) ∷ fs; memory = memory };
  is = add_step m f fs memory h.a h.b h.is h.x h.y h.rest h.first h.second;
  goes = (result_ready m.items ((h.x + h.y) % 2 ^ 32) (record f { rest = h.is }) h.waits, others);
}

call_goes : (m : Module) (f : Frame) (fs : List Frame) (memory : Memory) → Calls m f → AllWait m.items fs → GoesOn m.items (frames_step m (f ∷ fs) memory)
call_goes m f fs memory h others =
    let g = head_of h.place h.passed.vs h.callable.straight.insts h.callable.straight.value in
    record {
      answer = stepped.Went;
      next = record { frames = g ∷ (record f { rest = h.is } ∷ fs); memory = memory };
      is = call_step m f fs memory h.fn_ty h.ext h.place h.given h.is h.passed.vs g h.rest h.passed.is (call_starts m h.place (length h.passed.vs) h.passed.vs h.callable);
      goes = (head_ready m h.place h.passed.vs h.callable h.passed.numbers, (h.waits, others));
    }

return_goes : (items : List Item) (x : ℕ) (fs : List Frame) (memory : Memory) → AllWait items fs → GoesOn items (return_step fs memory (val.Num x))
return_goes items x [] memory h = record { answer = stepped.Returned (Some (val.Num x)); next = record { frames = []; memory = memory }; is = refl; goes = tt }
return_goes items x (g ∷ gs) memory h =
    record { answer = stepped.Went; next = record { frames = with_result g (val.Num x) ∷ gs; memory = memory }; is = refl; goes = (result_ready items x g h.0, h.1) }

frames_go : (m : Module) (fs : List Frame) (memory : Memory) → ItemsStraight m → FramesReady m.items fs → GoesOn m.items (frames_step m fs memory)
frames_go m [] memory items h = absurd h
frames_go m (f ∷ fs) memory items h = elim (does m f items h.0) [
  | inl a ↦ add_goes m f fs memory a h.1
  | inr r ↦ elim r [
    | inl c ↦ call_goes m f fs memory c h.1
    | inr r ↦ subst (GoesOn m.items) (sym (return_steps m f fs memory r.operand r.x r.rest r.last r.returned)) (return_goes m.items r.x fs memory h.1)
  ]
]

-- ---- runs

abbrev pub numbers : List ℕ → List Value
numbers ns = map (λ n. val.Num n) ns

-- roots that call functions of the module with as many words as they take
abbrev pub RootsReady : Module → List Root → Type 0
RootsReady m [] = Unit {0}
RootsReady m (root ∷ roots) = Callable m root.func.item (length (numbers root.args)) × RootsReady m roots

pub record MomentReady (m : Module) (x : Moment) : Type 0 where
  pub roots : RootsReady m x.roots
  pub goes : ((x.phase ≡ phase.Running) × FramesReady m.items x.state.frames) ⊎ (x.phase ≡ phase.Finished)

pub record Reaches (m : Module) (o : Option Moment) : Type 0 where
  pub moment : Moment
  pub is : o ≡ Some moment
  pub ready : MomentReady m moment

pub are_numbers : (ns : List ℕ) → AreNumbers (numbers ns)
are_numbers [] = tt
are_numbers (n ∷ ns) = ((n, refl), are_numbers ns)

abbrev pub entered : Memory → List Root → List Reply → List Event → ℕ → Frame → Moment
entered memory roots replies trace steps f =
    record { state = record { frames = f ∷ []; memory = memory }; roots = roots; replies = replies; trace = trace; phase = phase.Running; steps = steps }

abbrev pub root_frame : (m : Module) (root : Root) → Callable m root.func.item (length (numbers root.args)) → Frame
root_frame m root c = head_of root.func.item (numbers root.args) c.straight.insts c.straight.value

enter_ready : (m : Module) (memory : Memory) (roots : List Root) (replies : List Reply) (trace : List Event) (steps : ℕ) → RootsReady m roots
    → Reaches m (enter m memory roots replies trace steps)
enter_ready m memory [] replies trace steps h = record {
  moment = record { state = record { frames = []; memory = memory }; roots = []; replies = replies; trace = trace; phase = phase.Finished; steps = steps };
  is = refl;
  ready = record { roots = tt; goes = inr refl };
}
enter_ready m memory (root ∷ roots) replies trace steps h =
    let args = numbers root.args in
    record {
      moment = entered memory roots replies trace steps (root_frame m root h.0);
      is = ap (option_map (entered memory roots replies trace steps)) (call_starts m root.func.item (length args) args h.0);
      ready = record { roots = h.1; goes = inl (refl, (head_ready m root.func.item args h.0 (are_numbers root.args), tt)) };
    }

after_ready : (m : Module) (x : Moment) (a : Stepped) (s : State) → RootsReady m x.roots → x.phase ≡ phase.Running → Goes m.items a s → Reaches m (after m x a s)
after_ready m x stepped.Went s h e g = record { moment = record x { state = s; steps = suc x.steps }; is = refl; ready = record { roots = h; goes = inl (e, g) } }
after_ready m x (stepped.Wants w) s h e g = absurd g
after_ready m x (stepped.Returned v) s h e g = enter_ready m s.memory x.roots x.replies (x.trace ++ event.Returned v ∷ []) (suc x.steps) h
after_ready m x (stepped.Exited n) s h e g = absurd g
after_ready m x stepped.Aborted s h e g = absurd g
after_ready m x (stepped.Undefined c) s h e g = absurd g

pub step_ready : (m : Module) (x : Moment) → ItemsStraight m → MomentReady m x → x.phase ≡ phase.Running → GoesOn m.items (step m x.state)
step_ready m x items h e = elim h.goes [
  | inl r ↦ frames_go m x.state.frames x.state.memory items r.1
  | inr f ↦ let wrong : phase.Running ≡ phase.Finished = sym e ∙ f in cc
]

advance_ready : (m : Module) (x : Moment) → ItemsStraight m → MomentReady m x → Reaches m (advance m x)
advance_ready m x items h = elim h.goes [
  | inl r ↦
      let g = step_ready m x items h r.0 in
      subst (λ b. Reaches m (if b then option_and_then (λ (n : Next). after m x n.0 n.1) (step m x.state) else Some x)) (sym (ap is_running r.0))
      (subst (λ o. Reaches m (option_and_then (λ (n : Next). after m x n.0 n.1) o)) (sym g.is) (after_ready m x g.answer g.next h.roots r.0 g.goes))
  | inr f ↦ subst (λ b. Reaches m (if b then option_and_then (λ (n : Next). after m x n.0 n.1) (step m x.state) else Some x)) (sym (ap is_running f))
      (record { moment = x; is = refl; ready = h })
]

pub moment_ready : (m : Module) (s : Session) (n : ℕ) → ItemsStraight m → RootsReady m s.roots → Reaches m (moment m s n)
moment_ready m s zero items h = enter_ready m first_memory s.roots s.replies [] 0 h
moment_ready m s (suc n) items h =
    let r = moment_ready m s n items h in
    subst (λ o. Reaches m (option_and_then (advance m) o)) (sym r.is) (advance_ready m r.moment items r.ready)

-- ---- conforming sessions

pub items_straight : (m : Module) → IsStraight m → ItemsStraight m
items_straight m h place i e = subst (λ o. IfSome o (IsStraightItem m.items place)) e (h.each place)

pub zip_length : {A B : Type 0} (R : A → B → Type 0) (xs : List A) (ys : List B) → AllZip R xs ys → length ys ≡ length xs
zip_length R [] [] h = refl
zip_length R [] (y ∷ ys) h = absurd h
zip_length R (x ∷ xs) [] h = absurd h
zip_length R (x ∷ xs) (y ∷ ys) h = ap suc (zip_length R xs ys h.1)

takes_known : (m : Module) (entry : ℕ) (args : List Known) (o : Option Item) → slice_get m.items entry ≡ o → ItemsStraight m → IsFunctionFor args o → Callable m entry (length args)
takes_known m entry args None e items h = absurd h
takes_known m entry args (Some (item.Var v)) e items h = absurd h
takes_known m entry args (Some (item.Func func)) e items h =
    record { func = func; at = e; straight = items entry (item.Func func) e; takes = sym (zip_length IsKnownOf func.params args h.1) }

pub entry_callable : (m : Module) (entry : ℕ) (args : List Known) → ItemsStraight m → IsFunctionFor args (slice_get m.items entry) → Callable m entry (length args)
entry_callable m entry args items h = takes_known m entry args (slice_get m.items entry) refl items h

root_ready : (m : Module) (entry : ℕ) (args : List Known) (root : Root) → Callable m entry (length args) → IsCallOf entry args root
    → Callable m root.func.item (length (numbers root.args))
root_ready m entry args root c h =
    let count : length args ≡ length (numbers root.args) = sym (length-map {B = Value} root.args (λ n. val.Num n) ∙ zip_length SuitsKnown args root.args h.suits) in
    subst (Callable m root.func.item) count (subst (λ k. Callable m k (length args)) (sym h.entered) c)

pub roots_ready : (m : Module) (entry : ℕ) (args : List Known) (roots : List Root) → Callable m entry (length args) → All (IsCallOf entry args) roots → RootsReady m roots
roots_ready m entry args [] c h = tt
roots_ready m entry args (root ∷ roots) c h =
    (root_ready m entry args root c (All-head (IsCallOf entry args) root roots h), roots_ready m entry args roots c (All-tail (IsCallOf entry args) root roots h))

reaches : (m : Module) (entry : ℕ) (args : List Known) (s : Session) (n : ℕ) → IsStraight m → IsFunctionFor args (slice_get m.items entry) → Conforms entry args s
    → Reaches m (moment m s n)
reaches m entry args s n h t c =
    let items = items_straight m h in
    moment_ready m s n items (roots_ready m entry args s.roots (entry_callable m entry args items t) c)

pub goes_on : (m : Module) (entry : ℕ) (args : List Known) (s : Session) (n : ℕ) → IsStraight m → IsFunctionFor args (slice_get m.items entry) → Conforms entry args s → IsSome (run m s n)
goes_on m entry args s n h t c =
    let r = reaches m entry args s n h t c in
    ap (λ o. is_some {T = Run} (option_map (λ (x : Moment). record { trace = x.trace; phase = x.phase; steps = x.steps }) o)) r.is

at_moment : (m : Module) (entry : ℕ) (args : List Known) (s : Session) (n : ℕ) (x : Moment) → IsStraight m → IsFunctionFor args (slice_get m.items entry) → Conforms entry args s
    → moment m s n ≡ Some x → MomentReady m x
at_moment m entry args s n x h t c e =
    let r = reaches m entry args s n h t c in
    let same : r.moment ≡ x = let both : Some r.moment ≡ Some x = sym r.is ∙ e in cc in
    subst (MomentReady m) same r.ready

pub never_undefined : (m : Module) (entry : ℕ) (args : List Known) (s : Session) (n : ℕ) (x : Moment) → IsStraight m → IsFunctionFor args (slice_get m.items entry) → Conforms entry args s
    → moment m s n ≡ Some x → (x.phase ≡ phase.Running) ⊎ (x.phase ≡ phase.Finished)
never_undefined m entry args s n x h t c e = elim (at_moment m entry args s n x h t c e).goes [ inl r ↦ inl r.0 | inr f ↦ inr f ]

pub has_next : (m : Module) (entry : ℕ) (args : List Known) (s : Session) (n : ℕ) (x : Moment) → IsStraight m → IsFunctionFor args (slice_get m.items entry) → Conforms entry args s
    → moment m s n ≡ Some x → x.phase ≡ phase.Running → (a : Stepped) × (t : State) × Steps m x.state a t
has_next m entry args s n x h t c e p =
    let g = step_ready m x (items_straight m h) (at_moment m entry args s n x h t c e) p in
    (g.answer, g.next, g.is)
