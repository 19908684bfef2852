-- Asks, their cuts in a plan, and what stands at their places in what is left.
use Rattle.std.proofs.Common.{◌≡◌, ◌∙◌, ℕ, zero, suc, ◌<◌, Bool, true, false, List, [], ◌∷◌, length, Option, Some, None, slice_get, slice_index_or, refl, sym, ap, subst, arith}
use Rattle.std.specs.Prelude.{All, Contains, nat_eq, ◌&&◌, option_map, option_and_then, IsSome, if◌then◌else◌}
use Rattle.std.specs.List.{filter_map, cons_option}
use Rattle.std.proofs.lemmas.Bool.{eqb-true, eq-eqb}
use Rattle.std.proofs.lemmas.Option.{slice_get_within, get_or_from_slice_get}
use Rattle.std.proofs.lemmas.List.{append-nil}
use Rattle.ir_types.specs.declared.scalar.Scalar.TheVariants.{I32}
use Rattle.ir_types.specs.declared.scalar.Known.{Known}
use Rattle.ir_types.specs.declared.scalar.Known.TheVariants.{Unknown, Num, Null}
use Rattle.ir_syntax.specs.declared.constant.Operand.{Operand}
use Rattle.ir_syntax.specs.declared.body.Inst.{Inst}
use Rattle.ir_syntax.specs.declared.body.Term.TheVariants as term
use Rattle.ir_syntax.specs.declared.item.Func.{Func}
use Rattle.ir_syntax.specs.declared.item.Item.{Item}
use Rattle.ir_syntax.specs.declared.item.Item.TheVariants as item
use Rattle.ir_syntax.specs.declared.item.Module.{Module}
use Rattle.ir_syntax.specs.Straight.{straight_body}
use Rattle.demands.specs.Demands.{IsFunctionFor}
use Rattle.straight_plan.specs.declared.cut.Ask.{Ask}
use Rattle.straight_plan.specs.declared.cut.Cut.{Cut}
use Rattle.straight_plan.specs.Asked.{insts_at, body_insts}
use Rattle.straight_plan.specs.Left.{asks_of, same_known, same_pattern, same_ask, place_of, left_params, left_from, left_term, left_body, left_item, left_module}
use Rattle.straight_meaning.specs.State.{Value}
use Rattle.straight_meaning.specs.Step.{body_start, item_start, call_start}
use Rattle.straight_meaning.specs.Kept.{facts_of}
use Rattle.straight_meaning.specs.Matching.{cut_of, left_frame}
use Rattle.straight_meaning.proofs.Ready.{head_of}

-- ---- the same ask

pub both_true : (a b : Bool) → (a && b) ≡ true → (a ≡ true) × (b ≡ true)
both_true true b e = (refl, e)
both_true false b e = cc

known_same : (p q : Known) → same_known p q ≡ true → p ≡ q
known_same Unknown Unknown e = refl
known_same Unknown (Num n) e = cc
known_same Unknown Null e = cc
known_same (Num k) Unknown e = cc
known_same (Num k) (Num n) e = ap (λ j. Num j) (eqb-true k n e)
known_same (Num k) Null e = cc
known_same Null Unknown e = cc
known_same Null (Num n) e = cc
known_same Null Null e = refl

same_itself : (p : Known) → same_known p p ≡ true
same_itself Unknown = refl
same_itself (Num n) = eq-eqb n n refl
same_itself Null = refl

pattern_same : (ps qs : List Known) → same_pattern ps qs ≡ true → ps ≡ qs
pattern_same [] [] e = refl
pattern_same [] (q ∷ qs) e = cc
pattern_same (p ∷ ps) [] e = cc
pattern_same (p ∷ ps) (q ∷ qs) e =
    let b = both_true (same_known p q) (same_pattern ps qs) e in
    let first : p ≡ q = known_same p q b.0 in
    let rest : ps ≡ qs = pattern_same ps qs b.1 in
    cc

pattern_itself : (ps : List Known) → same_pattern ps ps ≡ true
pattern_itself [] = refl
pattern_itself (p ∷ ps) = ap (λ b. b && same_pattern ps ps) (same_itself p) ∙ pattern_itself ps

pub ask_is : (one other : Ask) → one.place ≡ other.place → one.pattern ≡ other.pattern → one ≡ other
ask_is one other e f = λ i. record { place = e i; pattern = f i }

pub ask_same : (one other : Ask) → same_ask one other ≡ true → one ≡ other
ask_same one other e =
    let b = both_true (nat_eq one.place other.place) (same_pattern one.pattern other.pattern) e in
    ask_is one other (eqb-true one.place other.place b.0) (pattern_same one.pattern other.pattern b.1)

pub ask_itself : (ask : Ask) → same_ask ask ask ≡ true
ask_itself ask = ap (λ b. b && same_pattern ask.pattern ask.pattern) (eq-eqb ask.place ask.place refl) ∙ pattern_itself ask.pattern

-- ---- the cut of an ask

cut_here : (c : Cut) (cs : List Cut) (ask : Ask) (b : Bool) → same_ask c.ask ask ≡ b
    → (b ≡ false → slice_get cs (place_of (asks_of cs) ask) ≡ Some (cut_of cs ask))
    → slice_get (c ∷ cs) (if b then 0 else suc (place_of (asks_of cs) ask)) ≡ Some (record { ask = ask; facts = if b then c.facts else facts_of cs ask })
cut_here c cs ask true e h = ap (λ a. Some (record { ask = a; facts = c.facts })) (ask_same c.ask ask e)
cut_here c cs ask false e h = h refl

found : (plan : List Cut) (ask : Ask) (k : ℕ) → k < length (asks_of plan) → slice_index_or (asks_of plan) k ask ≡ ask → slice_get plan (place_of (asks_of plan) ask) ≡ Some (cut_of plan ask)
found [] ask k l e = absurd (omega arith)
found (c ∷ cs) ask zero l e = cut_here c cs ask (same_ask c.ask ask) refl (λ no.
    let yes : same_ask c.ask ask ≡ true = subst (λ a. same_ask a ask ≡ true) (sym e) (ask_itself ask) in
    absurd (let wrong : true ≡ false = sym yes ∙ no in cc))
found (c ∷ cs) ask (suc k) l e = cut_here c cs ask (same_ask c.ask ask) refl (λ no. found cs ask k (omega arith) e)

-- a cut of the plan stands at the place of what it is for
pub cut_at : (plan : List Cut) (ask : Ask) → Contains (asks_of plan) ask → slice_get plan (place_of (asks_of plan) ask) ≡ Some (cut_of plan ask)
cut_at plan ask c = found plan ask c.0 c.1 c.2

pub all_at : {X : Type 0} (P : X → Type 0) (xs : List X) (k : ℕ) (x : X) → All P xs → slice_get xs k ≡ Some x → P x
all_at P xs k x h e = subst P (get_or_from_slice_get xs k x x e) (h k x (slice_get_within xs k x e))

-- what holds of each cut holds of that of an ask
pub of_ask : (P : Cut → Type 0) (plan : List Cut) (ask : Ask) → All P plan → Contains (asks_of plan) ask → P (cut_of plan ask)
of_ask P plan ask h c = all_at P plan (place_of (asks_of plan) ask) (cut_of plan ask) h (cut_at plan ask c)

-- ---- what is left

first_of : {Y : Type 0} (o : Option Y) (ys : List Y) → IsSome o → slice_get (cons_option o ys) 0 ≡ o
first_of None ys h = cc
first_of (Some y) ys h = refl

behind : {Y : Type 0} (o : Option Y) (ys : List Y) (k : ℕ) → IsSome o → slice_get (cons_option o ys) (suc k) ≡ slice_get ys k
behind None ys k h = cc
behind (Some y) ys k h = refl

-- what is made of each stands at its place
pub made_at : {X Y : Type 0} (h : X → Option Y) (xs : List X) (k : ℕ) (x : X) → ((j : ℕ) (x : X) → slice_get xs j ≡ Some x → IsSome (h x)) → slice_get xs k ≡ Some x
    → slice_get (filter_map h xs) k ≡ h x
made_at h [] k x all e = cc
made_at h (y ∷ ys) zero x all e = let same : y ≡ x = cc in first_of (h y) (filter_map h ys) (all 0 y refl) ∙ ap h same
made_at h (y ∷ ys) (suc k) x all e = behind (h y) (filter_map h ys) k (all 0 y refl) ∙ made_at h ys k x (λ j z g. all (suc j) z g) e

-- a function of a pattern is left
is_left : (items : List Item) (asks : List Ask) (start : Ask) (cut : Cut) (o : Option Item) → IsFunctionFor cut.ask.pattern o → IsSome (left_item items asks start cut o)
is_left items asks start cut None h = absurd h
is_left items asks start cut (Some (item.Var v)) h = absurd h
is_left items asks start cut (Some (item.Func f)) h = refl

pub each_left : (items : List Item) (start : Ask) (plan : List Cut) → All (λ cut. IsFunctionFor cut.ask.pattern (slice_get items cut.ask.place)) plan
    → (j : ℕ) (cut : Cut) → slice_get plan j ≡ Some cut → IsSome (left_item items (asks_of plan) start cut (slice_get items cut.ask.place))
each_left items start plan h j cut e =
    is_left items (asks_of plan) start cut (slice_get items cut.ask.place) (all_at (λ cut. IsFunctionFor cut.ask.pattern (slice_get items cut.ask.place)) plan j cut h e)

-- the instructions of a straight function
pub insts_here : (items : List Item) (place : ℕ) (func : Func) (insts : List Inst) (v : Operand) → slice_get items place ≡ Some (item.Func func) → func.body ≡ Some (straight_body insts v)
    → insts_at (slice_get items place) ≡ insts
insts_here items place func insts v e b = ap insts_at e ∙ ap body_insts b ∙ append-nil insts

-- the call of what is left for an ask is what is left of the call
pub left_starts : (m : Module) (start : Ask) (plan : List Cut) (ask : Ask) (place : ℕ) (vs : List Value) (func : Func) (insts : List Inst) (v : Operand)
    → slice_get m.items ask.place ≡ Some (item.Func func) → func.body ≡ Some (straight_body insts v)
    → All (λ cut. IsFunctionFor cut.ask.pattern (slice_get m.items cut.ask.place)) plan → Contains (asks_of plan) ask
    → call_start (left_module m start plan) (place_of (asks_of plan) ask) (left_params start ask vs) ≡ Some (left_frame m.items start plan ask 0 (head_of place vs insts v))
left_starts m start plan ask place vs func insts v at body functions c =
    let new = place_of (asks_of plan) ask in
    let cut = cut_of plan ask in
    let args = left_params start ask vs in
    ap (option_and_then (item_start new args)) (made_at (λ cut. left_item m.items (asks_of plan) start cut (slice_get m.items cut.ask.place)) plan new cut (each_left m.items start plan functions) (cut_at plan ask c))
    ∙ ap (λ o. option_and_then (item_start new args) (left_item m.items (asks_of plan) start cut o)) at
    ∙ ap (λ o. body_start new args (option_map (left_body m.items (asks_of plan) start cut) o)) body
    ∙ ap (λ (among : List Inst). body_start new args (Some (record {
      blocks = record {
        phis = [];
        insts = left_from m.items (asks_of plan) start cut among 0 insts;
        term = left_term start cut among (term.Ret I32 v);
      } ∷ [];
    }))) (sym (insts_here m.items ask.place func insts v at body))
