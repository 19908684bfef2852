-- A run completes the steps that it begins.
use Rattle.std.proofs.Common.{◌≡◌, ◌∙◌, ℕ, zero, suc, ◌+◌, Bool, true, false, List, [], ◌∷◌, ◌++◌, map, Option, Some, None, refl, sym, ap, subst, arith}
use Rattle.std.specs.Prelude.{option_map, option_and_then, if◌then◌else◌}
use Rattle.ir_syntax.specs.declared.item.Module.{Module}
use Rattle.straight_meaning.specs.declared.value.Val.TheVariants as val
use Rattle.straight_meaning.specs.declared.session.Stepped.{Stepped}
use Rattle.straight_meaning.specs.declared.session.Stepped.TheVariants as stepped
use Rattle.straight_meaning.specs.declared.session.Root.{Root}
use Rattle.straight_meaning.specs.declared.session.Reply.{Reply}
use Rattle.straight_meaning.specs.declared.session.Session.{Session}
use Rattle.straight_meaning.specs.declared.session.Event.{Event}
use Rattle.straight_meaning.specs.declared.session.Event.TheVariants as event
use Rattle.straight_meaning.specs.declared.session.Run.{Run}
use Rattle.straight_meaning.specs.State.{Memory, State}
use Rattle.straight_meaning.specs.Step.{Next, call_start, step}
use Rattle.straight_meaning.specs.Run.{Moment, enter, after, is_running, advance, first_memory, moment, run, begins, begun}
use Rattle.straight_meaning.proofs.Options.{Each, each_then, each_map, each_at}

abbrev Counts : ℕ → Option Moment → Type 0
Counts k o = Each (λ x. x.steps ≡ k) o

enter_counts : (m : Module) (memory : Memory) (roots : List Root) (replies : List Reply) (trace : List Event) (steps k : ℕ) → steps ≡ k → Counts k (enter m memory roots replies trace steps)
enter_counts m memory [] replies trace steps k e = e
enter_counts m memory (root ∷ roots) replies trace steps k e =
    each_map (λ (x : Moment). x.steps ≡ k) (call_start m root.func.item (map (λ n. val.Num n) root.args)) _ (λ f d. e)

after_counts : (m : Module) (x : Moment) (a : Stepped) (s : State) (k : ℕ) → suc x.steps ≡ k → Counts k (after m x a s)
after_counts m x stepped.Went s k e = e
after_counts m x (stepped.Wants w) s k e = tt
after_counts m x (stepped.Returned v) s k e = enter_counts m s.memory x.roots x.replies (x.trace ++ event.Returned v ∷ []) (suc x.steps) k e
after_counts m x (stepped.Exited n) s k e = tt
after_counts m x stepped.Aborted s k e = tt
after_counts m x (stepped.Undefined c) s k e = tt

choose_counts : (m : Module) (x : Moment) (k : ℕ) (b : Bool) → x.steps ≡ k
    → Counts (k + (if b then 1 else 0)) (if b then option_and_then (λ (n : Next). after m x n.0 n.1) (step m x.state) else Some x)
choose_counts m x k true e = each_then (λ (x : Moment). x.steps ≡ k + 1) (step m x.state) _ (λ n d. after_counts m x n.0 n.1 (k + 1) (omega (arith, e)))
choose_counts m x k false e = omega (arith, e)

some_begins : (m : Module) (o : Option Moment) (x : Moment) (k : ℕ) → o ≡ Some x → Counts (k + (if is_running x.phase then 1 else 0)) (advance m x)
    → Counts (k + (if begins o then 1 else 0)) (advance m x)
some_begins m o x k e h = subst (λ p. Counts (k + (if begins p then 1 else 0)) (advance m x)) (sym e) h

moment_counts : (m : Module) (s : Session) (n : ℕ) → Counts (begun m s n) (moment m s n)
moment_counts m s zero = enter_counts m first_memory s.roots s.replies [] 0 0 refl
moment_counts m s (suc n) = each_then (λ (x : Moment). x.steps ≡ begun m s (suc n)) (moment m s n) (advance m) (λ x e.
    some_begins m (moment m s n) x (begun m s n) e
    (choose_counts m x (begun m s n) (is_running x.phase) (each_at (λ (x : Moment). x.steps ≡ begun m s n) (moment m s n) x (moment_counts m s n) e)))

run_counts : (o : Option Moment) (k : ℕ) (r : Run) → Counts k o → option_map (λ x. record { trace = x.trace; phase = x.phase; steps = x.steps }) o ≡ Some r → r.steps ≡ k
run_counts None k r h e = cc
run_counts (Some x) k r h e = let same : record { trace = x.trace; phase = x.phase; steps = x.steps } ≡ r = cc in ap (λ (q : Run). q.steps) (sym same) ∙ h

pub steps_counted : (m : Module) (s : Session) (n : ℕ) (r : Run) → run m s n ≡ Some r → r.steps ≡ begun m s n
steps_counted m s n r e = run_counts (moment m s n) (begun m s n) r (moment_counts m s n) e
