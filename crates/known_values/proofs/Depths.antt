-- The readings of the calls behind a step: of as many calls, of one more, of one fewer, and of none.
use Rattle.std.proofs.Common.{◌≡◌, ◌∙◌, ℕ, zero, suc, ◌+◌, ◌-◌, ◌≤◌, nat_lt, true, false, List, [], ◌∷◌, length, drop, Option, sym, ap, subst, arith, if◌then◌else◌}
use Rattle.std.specs.List.{AllZip}
use Rattle.std.proofs.lemmas.Bool.{lt-ltb, le-ltb}
use Rattle.ir_syntax.specs.declared.body.Inst.{Inst}
use Rattle.ir_syntax.specs.Programs.{ProgramData}
use Rattle.ir_steps.specs.States.{Frame}
use Rattle.ir_steps.specs.Results.{Next}
use Rattle.session_runs.specs.Following.{View, called_kinds, deeper_kinds, kinds_by}
use Rattle.fold_facts.proofs.Lists.{zip_length}
use Rattle.known_values.specs.Readings.{Reading}
use Rattle.known_values.specs.Frames.{IsFrameAs}

-- each call is as it is read
abbrev pub AreFramesAs : ProgramData → List (Option Reading) → List Frame → Type 0
AreFramesAs p kinds frames = AllZip (IsFrameAs p) kinds frames

-- and behind a step too
abbrev pub IsAfter : ProgramData → View (Option Reading) → List (Option Reading) → List Frame → Next → Type 0
IsAfter p v kinds before next = AreFramesAs p (kinds_by v kinds before next.1.frames) next.1.frames

-- There aren't more calls.
not_deeper : (v : View (Option Reading)) (kinds : List (Option Reading)) (before after : List Frame) (n : ℕ) → length after + n ≡ length before → kinds_by v kinds before after ≡ drop n kinds
not_deeper v kinds before after n e =
    let fewer : nat_lt (length before) (length after) ≡ false = le-ltb (length before) (length after) (omega arith) in
    let less : length before - length after ≡ n = omega arith in
    ap (λ b. if b then deeper_kinds v kinds before after else drop (length before - length after) kinds) fewer ∙ ap (λ m. drop m kinds) less

pub as_many : (p : ProgramData) (v : View (Option Reading)) (kind : Option Reading) (kinds : List (Option Reading)) (f g : Frame) (below : List Frame) → IsFrameAs p kind g → AreFramesAs p kinds below
    → AreFramesAs p (kinds_by v (kind ∷ kinds) (f ∷ below) (g ∷ below)) (g ∷ below)
as_many p v kind kinds f g below h rest = subst (λ ks. AreFramesAs p ks (g ∷ below)) (sym (not_deeper v (kind ∷ kinds) (f ∷ below) (g ∷ below) 0 (none (length below)))) (h, rest)
  where
    none : (n : ℕ) → suc n + 0 ≡ suc n
    none n = omega arith

-- nothing has changed
pub unchanged : (p : ProgramData) (v : View (Option Reading)) (kinds : List (Option Reading)) (frames : List Frame) → AreFramesAs p kinds frames → AreFramesAs p (kinds_by v kinds frames frames) frames
unchanged p v kinds frames h = subst (λ ks. AreFramesAs p ks frames) (sym (not_deeper v kinds frames frames 0 (none (length frames)))) h
  where
    none : (n : ℕ) → n + 0 ≡ n
    none n = omega arith

pub one_fewer : (p : ProgramData) (v : View (Option Reading)) (kind : Option Reading) (kinds : List (Option Reading)) (f c d : Frame) (below : List Frame) → AreFramesAs p kinds (d ∷ below)
    → AreFramesAs p (kinds_by v (kind ∷ kinds) (f ∷ c ∷ below) (d ∷ below)) (d ∷ below)
one_fewer p v kind kinds f c d below h = subst (λ ks. AreFramesAs p ks (d ∷ below)) (sym (not_deeper v (kind ∷ kinds) (f ∷ c ∷ below) (d ∷ below) 1 (one (length below)))) h
  where
    one : (n : ℕ) → suc n + 1 ≡ suc (suc n)
    one n = omega arith

drop_long : (p : ProgramData) (kinds : List (Option Reading)) (n : ℕ) → length kinds ≤ n → AreFramesAs p (drop n kinds) []
drop_long p [] zero h = tt
drop_long p [] (suc n) h = tt
drop_long p (k ∷ kinds) zero h = absurd (omega arith)
drop_long p (k ∷ kinds) (suc n) h = drop_long p kinds n (omega arith)

-- Where no call runs none is read.
pub none_left : (p : ProgramData) (v : View (Option Reading)) (kinds : List (Option Reading)) (before : List Frame) → AreFramesAs p kinds before → AreFramesAs p (kinds_by v kinds before []) []
none_left p v kinds before h =
    let long : length before ≡ length kinds = zip_length (IsFrameAs p) kinds before h in
    subst (λ ks. AreFramesAs p ks []) (sym (not_deeper v kinds before [] (length before) (none (length before)))) (drop_long p kinds (length before) (omega arith))
  where
    none : (n : ℕ) → 0 + n ≡ n
    none n = omega arith

-- The call that runs is of the caller's instruction.
pub one_more : (p : ProgramData) (v : View (Option Reading)) (kind : Option Reading) (kinds : List (Option Reading)) (f g : Frame) (below : List Frame) (inst : Inst) (behind : List Inst) → f.rest ≡ inst ∷ behind
    → IsFrameAs p (v.of_call kind inst g.func) g → IsFrameAs p kind f → AreFramesAs p kinds below → AreFramesAs p (kinds_by v (kind ∷ kinds) (f ∷ below) (g ∷ f ∷ below)) (g ∷ f ∷ below)
one_more p v kind kinds f g below inst behind e new h rest =
    let less : nat_lt (length (f ∷ below)) (length (g ∷ f ∷ below)) ≡ true = lt-ltb (length (f ∷ below)) (length (g ∷ f ∷ below)) (omega arith) in
    let is : kinds_by v (kind ∷ kinds) (f ∷ below) (g ∷ f ∷ below) ≡ v.of_call kind inst g.func ∷ kind ∷ kinds =
    ap (λ b. if b then deeper_kinds v (kind ∷ kinds) (f ∷ below) (g ∷ f ∷ below) else drop (length (f ∷ below) - length (g ∷ f ∷ below)) (kind ∷ kinds)) less
    ∙ ap (λ insts. called_kinds v (kind ∷ kinds) insts (g ∷ f ∷ below)) e in
    subst (λ ks. AreFramesAs p ks (g ∷ f ∷ below)) (sym is) (new, (h, rest))
