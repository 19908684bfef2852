-- Looks are opened, and wait again.
use Rattle.std.proofs.Common.{◌≡◌, ◌≢◌, ◌∙◌, ◌⊎◌, inl, inr, ℕ, ◌+◌, ◌-◌, ◌<◌, ◌≤◌, true, false, List, [], ◌∷◌, ◌++◌, Option, None, Some, length, take, drop, set, get_or, refl, sym, ap, subst, arith, length-append}
use Rattle.std.specs.Prelude.{slice_get, Contains, sum_by}
use Rattle.std.proofs.lemmas.Bool.{false≢true}
use Rattle.std.proofs.lemmas.List.{length-set, take_more, take_all, drop_all}
use Rattle.std.proofs.lemmas.List.Elements.{Contains-append_cases, Contains-append_left, Contains-append_right, Contains-push_cases, Contains-push}
use Rattle.std.proofs.lemmas.Option.{none-some, get_or_from_slice_get}
use Rattle.ir_syntax.specs.declared.body.Block.{Block}
use Rattle.fold_facts.specs.declared.fact.Fact.{Fact}
use Rattle.fold_facts.specs.Assigned.{Assigned}
use Rattle.fold_facts.specs.Operands.{Setting}
use Rattle.fold_facts.proofs.Lists.{some_is, is_or_not, set_same, set_other, there, within, sum_set}
use Rattle.fold_sparse.specs.declared.look.Look.{Look}
use Rattle.fold_sparse.specs.declared.standing.Standing.{Standing}
use Rattle.fold_sparse.specs.declared.standing.Standing.TheVariants.{Unopened, Queued, Idle}
use Rattle.fold_sparse.specs.Looks.{looks_of, is_active, IsMet}
use Rattle.fold_sparse.specs.Solving.{IsSolving, left, unopened, is_unopened, is_idle, is_queued, Opens, Pushes}
use Rattle.fold_sparse.proofs.Lists.{assoc, drop_get}

pub in_none : (x : ℕ) → Contains [] x → ⊥
in_none x (k, less, is) = omega (arith, less)

pub in_cons : (l : ℕ) (ls : List ℕ) (x : ℕ) → Contains (l ∷ ls) x → (x ≡ l) ⊎ Contains ls x
in_cons l ls x h = elim (Contains-append_cases (l ∷ []) ls x h) [
  | inl one ↦ elim (Contains-push_cases [] l x one) [ inl none ↦ absurd (in_none x none) | inr is ↦ inl (sym is) ]
  | inr rest ↦ inr rest
]

-- what stands so
pub is_unopened_some : (o : Option Standing) → is_unopened o ≡ true → o ≡ Some Unopened
is_unopened_some None h = absurd (false≢true h)
is_unopened_some (Some Unopened) h = refl
is_unopened_some (Some Queued) h = absurd (false≢true h)
is_unopened_some (Some Idle) h = absurd (false≢true h)

pub is_idle_some : (o : Option Standing) → is_idle o ≡ true → o ≡ Some Idle
is_idle_some None h = absurd (false≢true h)
is_idle_some (Some Unopened) h = absurd (false≢true h)
is_idle_some (Some Queued) h = absurd (false≢true h)
is_idle_some (Some Idle) h = refl

pub is_queued_some : (o : Option Standing) → is_queued o ≡ true → o ≡ Some Queued
is_queued_some None h = absurd (false≢true h)
is_queued_some (Some Unopened) h = absurd (false≢true h)
is_queued_some (Some Queued) h = refl
is_queued_some (Some Idle) h = absurd (false≢true h)

queued_unopened : Some Queued ≡ Some Unopened → ⊥
queued_unopened e = false≢true (ap is_unopened e)

queued_idle : Some Queued ≡ Some Idle → ⊥
queued_idle e = false≢true (ap is_idle e)

idle_unopened : Some Idle ≡ Some Unopened → ⊥
idle_unopened e = false≢true (ap is_unopened e)

idle_queued : Some Idle ≡ Some Queued → ⊥
idle_queued e = false≢true (ap is_queued e)

-- ---- one look waits

-- A look that is active, or was opened, waits. That takes it from those that may have become active or may ask for more.
waiting : (setting : Setting) (blocks : List Block) (a : Assigned) (standing : List Standing) (queue unseen more busy others : List ℕ) (l : ℕ) → l < length standing
    → ((look : Look) → slice_get (looks_of blocks) l ≡ Some look → is_active a look ≡ true)
    → ((x : ℕ) → x ≢ l → Contains more x → Contains unseen x) → ((x : ℕ) → x ≢ l → Contains others x → Contains busy x)
    → IsSolving setting blocks a standing queue more others → IsSolving setting blocks a (set standing l Queued) (queue ++ l ∷ []) unseen busy
waiting setting blocks a standing queue unseen more busy others l less active fewer calmer h = record {
  fits = h.fits;
  below = h.below;
  long = length-set standing l Queued ∙ h.long;
  opened = λ x look is. elim (is_or_not x l) [
    | inl same ↦ inr (active look (subst (λ n. slice_get (looks_of blocks) n ≡ Some look) same is))
    | inr ne ↦ elim (h.opened x look is) [ inl not ↦ inl (set_other standing l x Queued ne ∙ not) | inr met ↦ inr met ]
  ];
  seen = λ x look is on not. elim (is_or_not x l) [
    | inl same ↦ absurd (queued_unopened (sym (set_same standing l Queued less) ∙ subst (λ n. slice_get (set standing l Queued) n ≡ Some Unopened) same not))
    | inr ne ↦ fewer x ne (h.seen x look is on (sym (set_other standing l x Queued ne) ∙ not))
  ];
  waits = λ x at. elim (is_or_not x l) [
    | inl same ↦ subst (Contains (queue ++ l ∷ [])) (sym same) (Contains-push queue l)
    | inr ne ↦ Contains-append_left queue (l ∷ []) x (h.waits x (sym (set_other standing l x Queued ne) ∙ at))
  ];
  met = λ x look is at. elim (is_or_not x l) [
    | inl same ↦ absurd (queued_idle (sym (set_same standing l Queued less) ∙ subst (λ n. slice_get (set standing l Queued) n ≡ Some Idle) same at))
    | inr ne ↦ elim (h.met x look is (sym (set_other standing l x Queued ne) ∙ at)) [ inl met ↦ inl met | inr b ↦ inr (calmer x ne b) ]
  ];
}

from_cons : (l : ℕ) (ls : List ℕ) (x : ℕ) → x ≢ l → Contains (l ∷ ls) x → Contains ls x
from_cons l ls x ne h = elim (in_cons l ls x h) [ inl same ↦ absurd (ne same) | inr rest ↦ rest ]

-- fewer that may have become active or may ask for more
pub fewer : (setting : Setting) (blocks : List Block) (a : Assigned) (standing : List Standing) (queue unseen more busy others : List ℕ)
    → ((x : ℕ) (look : Look) → slice_get (looks_of blocks) x ≡ Some look → is_active a look ≡ true → slice_get standing x ≡ Some Unopened → Contains more x → Contains unseen x)
    → ((x : ℕ) (look : Look) → slice_get (looks_of blocks) x ≡ Some look → slice_get standing x ≡ Some Idle → Contains others x → IsMet setting blocks a look ⊎ Contains busy x)
    → IsSolving setting blocks a standing queue more others → IsSolving setting blocks a standing queue unseen busy
fewer setting blocks a standing queue unseen more busy others less calm h = record {
  fits = h.fits;
  below = h.below;
  long = h.long;
  opened = h.opened;
  seen = λ x look is on not. less x look is on not (h.seen x look is on not);
  waits = h.waits;
  met = λ x look is at. elim (h.met x look is at) [ inl met ↦ inl met | inr b ↦ calm x look is at b ];
}

-- ---- transfers that are left

left_queued : (uses : List (ℕ × ℕ)) (facts : List Fact) (standing : List Standing) (queue : List ℕ) (l : ℕ) (was : Standing) → slice_get standing l ≡ Some was
    → left uses facts (set standing l Queued) (queue ++ l ∷ []) + unopened was ≡ left uses facts standing queue + 1
left_queued uses facts standing queue l was is =
    let sum : sum_by unopened (set standing l Queued) + unopened was ≡ sum_by unopened standing + unopened Queued = sum_set unopened standing l was Queued is in
    let none : unopened Queued ≡ 0 = refl in
    omega (arith, sum, none, length-append queue (l ∷ []))

-- ---- opening

pub open_yes : (blocks : List Block) (a : Assigned) (standing next : List Standing) (queue longer : List ℕ) (l : ℕ) (look : Look) → slice_get (looks_of blocks) l ≡ Some look
    → is_active a look ≡ true → is_unopened (slice_get standing l) ≡ true → next ≡ set standing l Queued → longer ≡ queue ++ l ∷ []
    → Opens blocks a standing next queue longer (l ∷ [])
open_yes blocks a standing next queue longer l look is on not made put =
    let was : slice_get standing l ≡ Some Unopened = is_unopened_some (slice_get standing l) not in
    subst (λ s. Opens blocks a standing s queue longer (l ∷ [])) (sym made) (subst (λ q. Opens blocks a standing (set standing l Queued) queue q (l ∷ [])) (sym put) (record {
      goes = λ setting unseen busy h. waiting setting blocks a standing queue unseen (l ∷ unseen) busy busy l (within standing l Unopened was)
          (λ other at. subst (λ k. is_active a k ≡ true) (some_is (sym is ∙ at)) on) (from_cons l unseen) (λ x ne b. b) h;
      left = λ uses. let e : left uses a.facts (set standing l Queued) (queue ++ l ∷ []) + unopened Unopened ≡ left uses a.facts standing queue + 1 = left_queued uses a.facts standing queue l Unopened was in
          let one : unopened Unopened ≡ 1 = refl in omega (arith, e, one);
    }))

open_not : (blocks : List Block) (a : Assigned) (standing : List Standing) (queue : List ℕ) (l : ℕ)
    → ((look : Look) → slice_get (looks_of blocks) l ≡ Some look → is_active a look ≡ true → slice_get standing l ≡ Some Unopened → ⊥) → Opens blocks a standing standing queue queue (l ∷ [])
open_not blocks a standing queue l never = record {
  goes = λ setting unseen busy h. fewer setting blocks a standing queue unseen (l ∷ unseen) busy busy
      (λ x look is on not at. elim (in_cons l unseen x at) [
        | inl same ↦ absurd (never look (subst (λ n. slice_get (looks_of blocks) n ≡ Some look) same is) on (subst (λ n. slice_get standing n ≡ Some Unopened) same not))
        | inr rest ↦ rest
      ])
      (λ x look is idle b. inr b) h;
  left = λ uses. omega arith;
}

pub open_inactive : (blocks : List Block) (a : Assigned) (standing : List Standing) (queue : List ℕ) (l : ℕ) (look : Look) → slice_get (looks_of blocks) l ≡ Some look → is_active a look ≡ false
    → Opens blocks a standing standing queue queue (l ∷ [])
open_inactive blocks a standing queue l look is off = open_not blocks a standing queue l (λ other at on not. false≢true (sym off ∙ subst (λ k. is_active a k ≡ true) (some_is (sym at ∙ is)) on))

pub open_opened : (blocks : List Block) (a : Assigned) (standing : List Standing) (queue : List ℕ) (l : ℕ) → is_unopened (slice_get standing l) ≡ false → Opens blocks a standing standing queue queue (l ∷ [])
open_opened blocks a standing queue l was = open_not blocks a standing queue l (λ other at on not. false≢true (sym was ∙ ap is_unopened not))

pub open_none : (blocks : List Block) (a : Assigned) (standing : List Standing) (queue : List ℕ) (l : ℕ) → slice_get (looks_of blocks) l ≡ None → Opens blocks a standing standing queue queue (l ∷ [])
open_none blocks a standing queue l none = open_not blocks a standing queue l (λ other at on not. none-some other (sym none ∙ at))

pub opens_none : (blocks : List Block) (a : Assigned) (standing : List Standing) (queue : List ℕ) → Opens blocks a standing standing queue queue []
opens_none blocks a standing queue = record { goes = λ setting unseen busy h. h; left = λ uses. omega arith }

-- so many of them, the last first
pub opens_next : (blocks : List Block) (a : Assigned) (standing mid next : List Standing) (queue longer longest ls : List ℕ) (n k l : ℕ) → n < length ls → k + 1 + n ≡ length ls → l ≡ get_or ls k 0
    → Opens blocks a standing mid queue longer (drop (length ls - n) ls) → Opens blocks a mid next longer longest (l ∷ []) → Opens blocks a standing next queue longest (drop (length ls - (n + 1)) ls)
opens_next blocks a standing mid next queue longer longest ls n k l less is same h g =
    let one : length ls - n ≡ k + 1 = omega (arith, is) in
    let two : length ls - (n + 1) ≡ k = omega (arith, is) in
    let found = there ls k (omega (arith, is)) in
    let all : drop k ls ≡ l ∷ drop (k + 1) ls = drop_get ls k found.0 found.1 ∙ ap (λ x. x ∷ drop (k + 1) ls) (sym (same ∙ get_or_from_slice_get ls k found.0 0 found.1)) in
    let rest : Opens blocks a standing mid queue longer (drop (k + 1) ls) = subst (λ m. Opens blocks a standing mid queue longer (drop m ls)) one h in
    subst (λ m. Opens blocks a standing next queue longest (drop m ls)) (sym two) (subst (Opens blocks a standing next queue longest) (sym all) (record {
      goes = λ setting unseen busy s. g.goes setting unseen busy (rest.goes setting (l ∷ unseen) busy (fewer setting blocks a standing queue (drop (k + 1) ls ++ l ∷ unseen) (l ∷ (drop (k + 1) ls ++ unseen)) busy busy
          (λ x look at on un c. moved unseen x (in_cons l (drop (k + 1) ls ++ unseen) x c)) (λ x look at idle c. inr c) s));
      left = λ uses. omega (arith, rest.left uses, g.left uses);
    }))
  where
    moved : (unseen : List ℕ) (x : ℕ) → (x ≡ l) ⊎ Contains (drop (k + 1) ls ++ unseen) x → Contains (drop (k + 1) ls ++ l ∷ unseen) x
    moved unseen x (inl here) = Contains-append_right (drop (k + 1) ls) (l ∷ unseen) x (subst (λ y. Contains (l ∷ unseen) y) (sym here) (Contains-append_left (l ∷ []) unseen l (Contains-push [] l)))
    moved unseen x (inr c) = elim (Contains-append_cases (drop (k + 1) ls) unseen x c) [
      | inl rest ↦ Contains-append_left (drop (k + 1) ls) (l ∷ unseen) x rest
      | inr end ↦ Contains-append_right (drop (k + 1) ls) (l ∷ unseen) x (Contains-append_right (l ∷ []) unseen x end)
    ]

pub opens_start : (blocks : List Block) (a : Assigned) (standing : List Standing) (queue ls : List ℕ) → Opens blocks a standing standing queue queue (drop (length ls - 0) ls)
opens_start blocks a standing queue ls =
    let n : length ls - 0 ≡ length ls = omega arith in
    subst (Opens blocks a standing standing queue queue) (sym (ap (λ m. drop m ls) n ∙ drop_all (length ls) ls (omega arith))) (opens_none blocks a standing queue)

pub opens_all : (blocks : List Block) (a : Assigned) (standing next : List Standing) (queue longer ls : List ℕ) (n : ℕ) → length ls ≤ n → Opens blocks a standing next queue longer (drop (length ls - n) ls) → Opens blocks a standing next queue longer ls
opens_all blocks a standing next queue longer ls n all h =
    let z : length ls - n ≡ 0 = omega (arith, all) in
    subst (Opens blocks a standing next queue longer) (ap (λ m. drop m ls) z ∙ drop_zero ls) h
  where
    drop_zero : (xs : List ℕ) → drop 0 xs ≡ xs
    drop_zero [] = refl
    drop_zero (x ∷ xs) = refl

-- ---- waiting again

pub push_yes : (blocks : List Block) (a : Assigned) (standing next : List Standing) (queue longer : List ℕ) (l : ℕ) → is_idle (slice_get standing l) ≡ true → next ≡ set standing l Queued → longer ≡ queue ++ l ∷ []
    → Pushes blocks a standing next queue longer (l ∷ [])
push_yes blocks a standing next queue longer l idle made put =
    let was : slice_get standing l ≡ Some Idle = is_idle_some (slice_get standing l) idle in
    subst (λ s. Pushes blocks a standing s queue longer (l ∷ [])) (sym made) (subst (λ q. Pushes blocks a standing (set standing l Queued) queue q (l ∷ [])) (sym put) (record {
      goes = λ setting unseen busy h. waiting setting blocks a standing queue unseen unseen busy (l ∷ busy) l (within standing l Idle was)
          (λ look at. elim (h.opened l look at) [ inl not ↦ absurd (idle_unopened (sym was ∙ not)) | inr on ↦ on ]) (λ x ne u. u) (from_cons l busy) h;
      left = λ uses. let e : left uses a.facts (set standing l Queued) (queue ++ l ∷ []) + unopened Idle ≡ left uses a.facts standing queue + 1 = left_queued uses a.facts standing queue l Idle was in
          let none : unopened Idle ≡ 0 = refl in let one : length (l ∷ []) ≡ 1 = refl in omega (arith, e, none, one);
    }))

pub push_not : (blocks : List Block) (a : Assigned) (standing : List Standing) (queue : List ℕ) (l : ℕ) → is_idle (slice_get standing l) ≡ false → Pushes blocks a standing standing queue queue (l ∷ [])
push_not blocks a standing queue l not = record {
  goes = λ setting unseen busy h. fewer setting blocks a standing queue unseen unseen busy (l ∷ busy) (λ x look is on un at. at)
      (λ x look is idle b. elim (in_cons l busy x b) [
        | inl same ↦ absurd (false≢true (sym not ∙ ap is_idle (subst (λ n. slice_get standing n ≡ Some Idle) same idle)))
        | inr rest ↦ inr rest
      ]) h;
  left = λ uses. omega arith;
}

pub pushes_none : (blocks : List Block) (a : Assigned) (standing : List Standing) (queue : List ℕ) → Pushes blocks a standing standing queue queue []
pushes_none blocks a standing queue = record { goes = λ setting unseen busy h. h; left = λ uses. omega arith }

pub pushes_next : (blocks : List Block) (a : Assigned) (standing mid next : List Standing) (queue longer longest ls : List ℕ) (n : ℕ) → n < length ls
    → Pushes blocks a standing mid queue longer (take n ls) → Pushes blocks a mid next longer longest (get_or ls n 0 ∷ []) → Pushes blocks a standing next queue longest (take (n + 1) ls)
pushes_next blocks a standing mid next queue longer longest ls n less h g = subst (Pushes blocks a standing next queue longest) (sym (take_more ls n 0 less)) (record {
  goes = λ setting unseen busy s. g.goes setting unseen busy (h.goes setting unseen (get_or ls n 0 ∷ busy) (subst (λ b. IsSolving setting blocks a standing queue unseen b) (assoc (take n ls) (get_or ls n 0 ∷ []) busy) s));
  left = λ uses. let one : length (get_or ls n 0 ∷ []) ≡ 1 = refl in omega (arith, h.left uses, g.left uses, length-append (take n ls) (get_or ls n 0 ∷ []), one);
})

pub pushes_all : (blocks : List Block) (a : Assigned) (standing next : List Standing) (queue longer ls : List ℕ) (n : ℕ) → length ls ≤ n → Pushes blocks a standing next queue longer (take n ls) → Pushes blocks a standing next queue longer ls
pushes_all blocks a standing next queue longer ls n all h = subst (Pushes blocks a standing next queue longer) (take_all n ls all) h
