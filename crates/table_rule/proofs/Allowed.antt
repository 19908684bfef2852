-- Each kind of step is allowed.
use Rattle.std.proofs.Common.{◌≡◌, ℕ, ◌+◌, ◌*◌, ◌%◌, ◌/◌, ◌^◌, ◌<◌, ◌≤◌, List, [], length, get_or, set, eqb, sym, refl, ap, ◌∙◌, subst, inl, inr, arith, eq-eqb, ne_eqb}
use Rattle.std.specs.Prelude.{Option}
use mathlib.Core.Option.{none, some}
use mathlib.Core.Logic.{dite}
use native.Mathlib.Decide.{ℕ_discrete}
use prog.Atomic.{either}
use lib.ListN.{get_elem?}
use Rattle.atomic_table.specs.Table.{State, Me, step, keeps, Allows}
use Rattle.table_rule.specs.declared.view.View.{View}
use Rattle.table_rule.specs.Layout.{Has, word_of, named, probe}
use Rattle.table_rule.specs.Views.{opened, writes, knows, saw_empty, published, takes}
use Rattle.table_rule.specs.Rule.{IsPublished, Rule}
use Rattle.table_rule.specs.Tells.{KnowsSlot, CanRead, Clear, IsReady, draws, stores, looks, reads, reads_head, reads_claim, publishes, claims_it, recalls}
use Rattle.table_rule.proofs.Lists.{set_same}
use Rattle.table_rule.proofs.Rows.{one_row, one_word, halves, probe_low, probe_high}
use Rattle.table_rule.proofs.Growing.{not_zero}
use Rattle.table_rule.proofs.Learning.{learned_kept, saw_kept, unchanged}
use Rattle.table_rule.proofs.Drawing.{drawn_kept}
use Rattle.table_rule.proofs.Storing.{stored_kept}
use Rattle.table_rule.proofs.Claiming.{claimed_kept}
use Rattle.table_rule.proofs.Placing.{published_kept}
use Rattle.table_rule.proofs.Bounds.{drawn_few, generation_low, size_is, lead_is, within, crowd, sane}

abbrev Keeping : ℕ → State (Unit {0}) View → Type 0
Keeping b s = Rule b s.words s.views

pub draw_allowed : (b n id : ℕ) (me : Me (Unit {0}) View) → 0 < length me.0.workers → me.0.held ≡ []
    → Allows (λ s. Rule b s.words s.views) n id me 0 (λ a. (a + 1) % 2 ^ 64) (draws (step n 0 1 0 none) me)
draw_allowed b n id me live free s r _ at _ =
    let count : ℕ = length r.rows in
    let x : ℕ = get_or s.words 0 0 in
    let few : count ≤ 65536 + b + b = drawn_few b s.words s.views r in
    let narrow : b ≤ 64 = r.numbers.narrow in
    let is : x ≡ count = r.numbers.drawn in
    let next : count + 1 ≡ (x + 1) % 2 ^ 64 = omega arith in
    let size : me.0.limit ≡ 65536 + b = size_is b s.words s.views r id me.0 at live in (
      opened me.0 count,
      keeps,
      tt,
      subst (λ (z : ℕ). Rule b (set s.words 0 z) (set s.views id (opened me.0 count))) next (drawn_kept b s.words s.views r id me.0 at (lead_is b s.words s.views r id me.0 at live) free),
      (refl, (ap (opened me.0) (sym is), omega arith)),
    )

store_at : (b n id k x j a : ℕ) (me : Me (Unit {0}) View) → x < 65536 + b → j < 36 → ((ws : List ℕ) × Has me.0.held (k, (x, ws)))
    → Allows (Keeping b) n id me (word_of x j) (λ _. a) (λ _. stores (step n (word_of x j) a 0 none) me a)
store_at b n id k x j a me low in_row has s r _ at _ = (
  writes me.0 x j a,
  keeps,
  tt,
  stored_kept b s.words s.views r id me.0 k x has.0 j a at has.1 low in_row,
  (refl, λ y i lt e. let xy : x ≡ y = one_row x y j i (omega arith) (omega arith) e in let ji : j ≡ i = one_word x y j i (omega arith) (omega arith) e in (λ t. writes me.0 (xy t) (ji t) a)),
)

pub store_allowed : (b n id k x j a q : ℕ) (me : Me (Unit {0}) View) → x < 65536 + b → j < 36 → ((ws : List ℕ) × Has me.0.held (k, (x, ws))) → word_of x j ≡ q
    → Allows (Keeping b) n id me q (λ _. a) (λ _. stores (step n q a 0 none) me a)
store_allowed b n id k x j a q me low in_row has e = subst (λ (z : ℕ). Allows (Keeping b) n id me z (λ _. a) (λ _. stores (step n z a 0 none) me a)) e (store_at b n id k x j a me low in_row has)

pub look_allowed : (b n id p : ℕ) (me : Me (Unit {0}) View) → 0 < length me.0.workers → 0 < p → p ≤ 131072
    → Allows (λ s. Rule b s.words s.views) n id me p (λ a. a) (looks (step n p 0 0 none) me)
look_allowed b n id p me live lo hi s r _ at _ =
    let x : ℕ = get_or s.words p 0 in
    let wide : length s.words ≡ 37 * (65536 + b) + 131073 = r.numbers.wide in
    let same : set s.words p x ≡ s.words = set_same s.words p (omega arith) in
    let crowded = crowd b s.words s.views r id me.0 at live in
    dite (ℕ_discrete x 0)
    (λ empty. (
      saw_empty me.0 p,
      keeps,
      tt,
      subst (λ (l : List ℕ). Rule b l (set s.views id (saw_empty me.0 p))) (sym same) (saw_kept b s.words s.views r id me.0 at p),
      (refl, record { none = λ _. refl; names = λ ne. absurd (ne empty); crowd = crowded }),
    ))
    (λ ne. (
      knows me.0 p x,
      keeps,
      tt,
      subst (λ (l : List ℕ). Rule b l (set s.views id (knows me.0 p x))) (sym same) (learned_kept b s.words s.views r id me.0 at p x refl (inl (lo, hi, ne))),
      (refl, record { none = λ e. absurd (ne e); names = λ _. (refl, within b s.words s.views r id me.0 at live p x lo hi refl ne); crowd = crowded }),
    ))

is_published : (b : ℕ) (words : List ℕ) (views : List View) (r : Rule b words views) (id : ℕ) (v : View) (x : ℕ) → get_elem? views id ≡ some v → CanRead v x → (p : ℕ) × IsPublished r.rows x p
is_published b words views r id v x at (inl h) = (h.0, r.numbers.named h.0 x h.1 h.2 ((r.each id v at).knows h.0 (x + 1) h.3).0)
is_published b words views r id v x at (inr h) = let t = (r.each id v at).claims.claims x h.0 h.1 in (r.claimed x h.0 t.0 t.1).1

read_kept : (b : ℕ) (words : List ℕ) (views : List View) (r : Rule b words views) (id : ℕ) (v : View) (x j : ℕ) → get_elem? views id ≡ some v → j < 36 → CanRead v x
    → Rule b (set words (word_of x j) (get_or words (word_of x j) 0)) (set views id (knows v (word_of x j) (get_or words (word_of x j) 0)))
read_kept b words views r id v x j at in_row can =
    let n : ℕ = get_or words (word_of x j) 0 in
    let p = is_published b words views r id v x at can in
    let low : x < 65536 + b = r.numbers.below x p.0 p.1 in
    let wide : length words ≡ 37 * (65536 + b) + 131073 = r.numbers.wide in
    let same : set words (word_of x j) n ≡ words = set_same words (word_of x j) (omega arith) in
    subst (λ (l : List ℕ). Rule b l (set views id (knows v (word_of x j) n))) (sym same) (learned_kept b words views r id v at (word_of x j) n refl (inr (inl (x, j, p.0, refl, in_row, p.1))))

read_at_word : (b n id x j : ℕ) (me : Me (Unit {0}) View) → j < 36 → CanRead me.0 x → Allows (Keeping b) n id me (word_of x j) (λ a. a) (reads (step n (word_of x j) 0 0 none) me)
read_at_word b n id x j me in_row can s r _ at _ = let a : ℕ = get_or s.words (word_of x j) 0 in (knows me.0 (word_of x j) a, keeps, tt, read_kept b s.words s.views r id me.0 x j at in_row can, (refl, refl))

pub read_allowed : (b n id x j q : ℕ) (me : Me (Unit {0}) View) → j < 36 → CanRead me.0 x → word_of x j ≡ q → Allows (Keeping b) n id me q (λ a. a) (reads (step n q 0 0 none) me)
read_allowed b n id x j q me in_row can e = subst (λ (z : ℕ). Allows (Keeping b) n id me z (λ a. a) (reads (step n z 0 0 none) me)) e (read_at_word b n id x j me in_row can)

head_at : (b n id x : ℕ) (me : Me (Unit {0}) View) → 0 < length me.0.workers → CanRead me.0 x → Allows (Keeping b) n id me (word_of x 0) (λ a. a) (reads_head (step n (word_of x 0) 0 0 none) me)
head_at b n id x me live can s r _ at _ =
    let a : ℕ = get_or s.words (word_of x 0) 0 in
    let p = is_published b s.words s.views r id me.0 x at can in
    let size : me.0.limit ≡ 65536 + b = size_is b s.words s.views r id me.0 at live in (
      knows me.0 (word_of x 0) a,
      keeps,
      tt,
      read_kept b s.words s.views r id me.0 x 0 at (omega arith) can,
      (refl, (refl, r.chains.short x p.0 p.1, subst (λ (z : ℕ). a / 64 < z) (sym size) (generation_low b s.words s.views r x p.0 p.1))),
    )

pub head_allowed : (b n id x q : ℕ) (me : Me (Unit {0}) View) → 0 < length me.0.workers → CanRead me.0 x → word_of x 0 ≡ q → Allows (Keeping b) n id me q (λ a. a) (reads_head (step n q 0 0 none) me)
head_allowed b n id x q me live can e = subst (λ (z : ℕ). Allows (Keeping b) n id me z (λ a. a) (reads_head (step n z 0 0 none) me)) e (head_at b n id x me live can)

read_claim_at : (b n id x k : ℕ) (me : Me (Unit {0}) View) → Has me.0.claims (x, k) → Allows (Keeping b) n id me (word_of x 36) (λ a. a) (reads_claim (step n (word_of x 36) 0 0 none) me)
read_claim_at b n id x k me has s r _ at _ =
    let q : ℕ = word_of x 36 in
    let a : ℕ = get_or s.words q 0 in
    let t = (r.each id me.0 at).claims.claims x k has in
    let low : x < 65536 + b = t.0 in
    let is : a ≡ k + 1 = t.1 in
    let wide : length s.words ≡ 37 * (65536 + b) + 131073 = r.numbers.wide in
    let same : set s.words q a ≡ s.words = set_same s.words q (omega arith) in (
      knows me.0 q a,
      keeps,
      tt,
      subst (λ (l : List ℕ). Rule b l (set s.views id (knows me.0 q a))) (sym same) (learned_kept b s.words s.views r id me.0 at q a refl (inr (inr (x, refl, low, λ e. not_zero k (sym is ∙ e))))),
      (refl, (refl, λ y l e h. let u = (r.each id me.0 at).claims.claims y l h in ap (λ (z : ℕ). get_or s.words z 0) e ∙ u.1)),
    )

pub read_claim_allowed : (b n id x k q : ℕ) (me : Me (Unit {0}) View) → Has me.0.claims (x, k) → word_of x 36 ≡ q → Allows (Keeping b) n id me q (λ a. a) (reads_claim (step n q 0 0 none) me)
read_claim_allowed b n id x k q me has e = subst (λ (z : ℕ). Allows (Keeping b) n id me z (λ a. a) (reads_claim (step n z 0 0 none) me)) e (read_claim_at b n id x k me has)

pub publish_allowed : (b n id k x p i m : ℕ) (parent : Option ℕ) (ws row : List ℕ) (me : Me (Unit {0}) View) → 0 < length me.0.workers → x < 65536 + b → Has me.0.held (k, (x, ws)) → p ≡ probe row i → Clear me.0 row i → IsReady me.0 ws row m parent
    → Allows (Keeping b) n id me p (λ a. either (eqb a 0) (x + 1) a) (publishes (step n p 0 (x + 1) none) me)
publish_allowed b n id k x p i m parent ws row me live low has is clear ready s r _ at _ =
    let a : ℕ = get_or s.words p 0 in
    let lo : 0 < p = subst (λ (z : ℕ). 0 < z) (sym is) (probe_low row i) in
    let hi : p ≤ 131072 = subst (λ (z : ℕ). z ≤ 131072) (sym is) (probe_high row i) in
    let wide : length s.words ≡ 37 * (65536 + b) + 131073 = r.numbers.wide in
    let same : set s.words p a ≡ s.words = set_same s.words p (omega arith) in
    let t = r.each id me.0 at in
    let narrow : b ≤ 64 = r.numbers.narrow in
    let bounded : (l : ℕ) → Has me.0.workers l → l < 64 = λ l h. let lt : l < b = t.workers.bounded l h in omega arith in
    let origin : (l : ℕ) (us : List ℕ) → Has me.0.held (l, (x, us)) → get_or s.words (word_of x 35) 0 ≡ get_or us 35 0 = λ l us h. (t.opens.shown x l us h).2.1 35 (omega arith) low in
    dite (ℕ_discrete a 0)
    (λ hit. (
      published me.0 p x m parent,
      keeps,
      tt,
      subst (λ c. Rule b (set s.words p (either c (x + 1) a)) (set s.views id (published me.0 p x m parent))) (sym (eq-eqb a 0 hit)) (published_kept b s.words s.views r id me.0 k x ws row p i m parent at has low is clear ready hit),
      (
        refl,
        λ y l m' parent' us row' e h ready'. (
          (λ _.
              let xy : x ≡ y = omega arith in
              let same_origin : m + 64 * named parent ≡ m' + 64 * named parent' = sym ready.origin ∙ (sym (origin k ws has) ∙ (origin l us (subst (λ (z : ℕ). Has me.0.held (l, (z, us))) (sym xy) h) ∙ ready'.origin)) in
              let d = halves m m' parent parent' (bounded m ready.maker) (bounded m' ready'.maker) same_origin in
              (λ j. published me.0 p (xy j) (d.0 j) (d.1 j))),
          λ ne. absurd (ne hit),
        ),
      ),
    ))
    (λ miss. (
      knows me.0 p a,
      keeps,
      tt,
      subst (λ c. Rule b (set s.words p (either c (x + 1) a)) (set s.views id (knows me.0 p a))) (sym (ne_eqb a 0 miss))
          (subst (λ (l : List ℕ). Rule b l (set s.views id (knows me.0 p a))) (sym same) (learned_kept b s.words s.views r id me.0 at p a refl (inl (lo, hi, miss)))),
      (refl, λ y l m' parent' us row' e h ready'. ((λ z. absurd (miss z)), λ _. (refl, within b s.words s.views r id me.0 at live p a lo hi refl miss))),
    ))

claim_at : (b n id x k : ℕ) (me : Me (Unit {0}) View) → Has me.0.workers k → KnowsSlot me.0 x
    → Allows (Keeping b) n id me (word_of x 36) (λ a. either (eqb a 0) (k + 1) a) (claims_it (step n (word_of x 36) 0 (k + 1) none) me)
claim_at b n id x k me mine known s r _ at _ =
    let q : ℕ = word_of x 36 in
    let a : ℕ = get_or s.words q 0 in
    let p = is_published b s.words s.views r id me.0 x at (inl known) in
    let low : x < 65536 + b = r.numbers.below x p.0 p.1 in
    let wide : length s.words ≡ 37 * (65536 + b) + 131073 = r.numbers.wide in
    let same : set s.words q a ≡ s.words = set_same s.words q (omega arith) in
    dite (ℕ_discrete a 0)
    (λ hit. (
      takes me.0 x k,
      keeps,
      tt,
      subst (λ c. Rule b (set s.words q (either c (k + 1) a)) (set s.views id (takes me.0 x k))) (sym (eq-eqb a 0 hit)) (claimed_kept b s.words s.views r id me.0 x p.0 k at mine p.1 hit),
      (refl, λ y l e f. ((λ _. let xy : x ≡ y = one_row x y 36 36 (omega arith) (omega arith) e in let kl : k ≡ l = omega arith in (λ j. takes me.0 (xy j) (kl j))), λ ne. absurd (ne hit))),
    ))
    (λ miss. (
      knows me.0 q a,
      keeps,
      tt,
      subst (λ c. Rule b (set s.words q (either c (k + 1) a)) (set s.views id (knows me.0 q a))) (sym (ne_eqb a 0 miss))
          (subst (λ (l : List ℕ). Rule b l (set s.views id (knows me.0 q a))) (sym same) (learned_kept b s.words s.views r id me.0 at q a refl (inr (inr (x, refl, low, miss))))),
      (refl, λ y l e f. ((λ z. absurd (miss z)), λ _. ap (λ (z : ℕ). knows me.0 z a) e)),
    ))

pub claim_allowed : (b n id x k q : ℕ) (me : Me (Unit {0}) View) → Has me.0.workers k → KnowsSlot me.0 x → word_of x 36 ≡ q
    → Allows (Keeping b) n id me q (λ a. either (eqb a 0) (k + 1) a) (claims_it (step n q 0 (k + 1) none) me)
claim_allowed b n id x k q me mine known e = subst (λ (z : ℕ). Allows (Keeping b) n id me z (λ a. either (eqb a 0) (k + 1) a) (claims_it (step n z 0 (k + 1) none) me)) e (claim_at b n id x k me mine known)

pub recall_allowed : (b n id : ℕ) (me : Me (Unit {0}) View) → 0 < length me.0.workers → Allows (λ s. Rule b s.words s.views) n id me 0 (λ a. a) (recalls (step n 0 0 0 none) me)
recall_allowed b n id me live s r _ at _ =
    let wide : length s.words ≡ 37 * (65536 + b) + 131073 = r.numbers.wide in
    let same : set s.words 0 (get_or s.words 0 0) ≡ s.words = set_same s.words 0 (omega arith) in
    (me.0, keeps, tt, subst (λ (l : List ℕ). Rule b l (set s.views id me.0)) (sym same) (unchanged b s.words s.views r id me.0 at), (refl, refl, sane b s.words s.views r id me.0 at live))
