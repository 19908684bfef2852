-- A run that is at an end stays as it is.
use Rattle.std.proofs.Common.{◌≡◌, ◌∙◌, ℕ, zero, suc, ◌+◌, ◌-◌, ◌≤◌, ◌<◌, nat_lt, Bool, true, false, ◌&&◌, [], ◌++◌, Option, Some, option_and_then, refl, sym, ap, subst, append-nil, arith, if◌then◌else◌}
use Rattle.std.proofs.lemmas.Bool.Decides.{nat_tests}
use Rattle.ir_syntax.specs.Programs.{ProgramData}
use Rattle.session_runs.specs.declared.session.Session.{Session}
use Rattle.session_runs.specs.Runs.{Moment, is_running, begun, goes, moment, wanted, call_of, call_at, calls}

stays : (p : ProgramData) (x : Moment) → is_running x.phase ≡ false → goes p x ≡ Some x
stays p x e = ap (λ b. if b then begun p x else Some x) e

ended_later : (p : ProgramData) (s : Session) (n : ℕ) (x : Moment) (k : ℕ) → moment p s n ≡ Some x → is_running x.phase ≡ false → moment p s (k + n) ≡ Some x
ended_later p s n x zero e h = let same : zero + n ≡ n = omega arith in ap (moment p s) same ∙ e
ended_later p s n x (suc k) e h =
    let same : suc k + n ≡ suc (k + n) = omega arith in
    ap (moment p s) same ∙ ap (option_and_then (goes p)) (ended_later p s n x k e h) ∙ stays p x h

pub ended : (p : ProgramData) (s : Session) (at n : ℕ) (x : Moment) → at ≤ n → moment p s at ≡ Some x → is_running x.phase ≡ false → moment p s n ≡ Some x
ended p s at n x fits e h = let same : n ≡ (n - at) + at = omega (arith, fits) in ap (moment p s) same ∙ ended_later p s at x (n - at) e h

-- one step more
pub goes_on : (p : ProgramData) (s : Session) (n : ℕ) (x : Moment) (y : Option Moment) → moment p s n ≡ Some x → is_running x.phase ≡ true → begun p x ≡ y → moment p s (n + 1) ≡ y
goes_on p s n x y e h b = let same : n + 1 ≡ suc n = omega arith in ap (moment p s) same ∙ ap (option_and_then (goes p)) e ∙ ap (λ r. if r then begun p x else Some x) h ∙ b

-- ---- the calls

call_none : (p : ProgramData) (x : Moment) → is_running x.phase ≡ false → call_at p (Some x) ≡ []
call_none p x h = ap (λ b. if b then call_of (wanted p x) else []) h

calls_later : (p : ProgramData) (s : Session) (n : ℕ) (x : Moment) (k : ℕ) → moment p s n ≡ Some x → is_running x.phase ≡ false → calls p s (k + n) ≡ calls p s n
calls_later p s n x zero e h = let same : zero + n ≡ n = omega arith in ap (calls p s) same
calls_later p s n x (suc k) e h =
    let same : suc k + n ≡ suc (k + n) = omega arith in
    ap (calls p s) same ∙ ap (λ cs. cs ++ call_at p (moment p s (k + n))) (calls_later p s n x k e h)
    ∙ ap (λ at. calls p s n ++ at) (ap (call_at p) (ended_later p s n x k e h) ∙ call_none p x h) ∙ append-nil (calls p s n)

pub calls_ended : (p : ProgramData) (s : Session) (at n : ℕ) (x : Moment) → at ≤ n → moment p s at ≡ Some x → is_running x.phase ≡ false → calls p s n ≡ calls p s at
calls_ended p s at n x fits e h = let same : n ≡ (n - at) + at = omega (arith, fits) in ap (calls p s) same ∙ calls_later p s at x (n - at) e h

-- ---- the end of a loop over steps

still : (p : ProgramData) (s : Session) (at n : ℕ) (x : Moment) (b : Bool) → is_running x.phase ≡ b → at ≤ n → (nat_lt at n && b) ≡ false → moment p s at ≡ Some x
    → (moment p s n ≡ Some x) × (calls p s n ≡ calls p s at)
still p s at n x true h fits e m =
    let same : at ≡ n = grind (arith, nat_tests, e) in
    subst (λ k. (moment p s k ≡ Some x) × (calls p s k ≡ calls p s at)) same (m, refl)
still p s at n x false h fits e m = (ended p s at n x fits m h, calls_ended p s at n x fits m h)

pub comes_to : (p : ProgramData) (s : Session) (at n : ℕ) (x : Moment) → at ≤ n → (nat_lt at n && is_running x.phase) ≡ false → moment p s at ≡ Some x → moment p s n ≡ Some x
comes_to p s at n x fits e m = (still p s at n x (is_running x.phase) refl fits e m).0

pub calls_come_to : (p : ProgramData) (s : Session) (at n : ℕ) (x : Moment) → at ≤ n → (nat_lt at n && is_running x.phase) ≡ false → moment p s at ≡ Some x → calls p s n ≡ calls p s at
calls_come_to p s at n x fits e m = (still p s at n x (is_running x.phase) refl fits e m).1

not_both : (b : Bool) → (b && false) ≡ true → ⊥
not_both true e = cc
not_both false e = cc

pub goes_so : (at n : ℕ) (b r : Bool) → r ≡ (nat_lt at n && b) → r ≡ true → (at < n) × (b ≡ true)
goes_so at n true r e h = (grind (arith, nat_tests, e, h), refl)
goes_so at n false r e h = absurd (let no : (nat_lt at n && false) ≡ true = sym e ∙ h in not_both (nat_lt at n) no)
