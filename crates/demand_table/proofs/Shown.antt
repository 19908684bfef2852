-- What a pass and a table show, against what stands in them.
use Rattle.std.proofs.Common.{◌≡◌, ◌≢◌, ◌↔◌, ℕ, Bool, true, false, not, eqb, true≢false, zero, suc, ◌+◌, ◌*◌, ◌-◌, ◌<◌, ◌≤◌, List, [], ◌∷◌, length, get_or, sym, refl, ap, ◌∙◌, subst, inl, arith}
use mathlib.Core.Logic.{dite}
use native.Mathlib.Decide.{dec_le}
use Rattle.std.specs.Prelude.{Option}
use Rattle.atomic_table.specs.Seated.{TableId}
use Rattle.table_rule.specs.declared.view.View.{View}
use Rattle.table_rule.specs.Layout.{Has, slots, total, word_of}
use Rattle.table_rule.specs.Views.{knows}
use Rattle.table_rule.specs.Tells.{KnowsSlot, IsRow, CanRead, Clear, HasLooked, HasReadClaim}
use Rattle.table_rule.proofs.Lists.{not_eqb, eqb_not}
use Rattle.demand_table.proofs.Tied.{is_known, not_known}
use Rattle.demand_table.specs.Passes.{PassView, TableView, IsClaimed}
use Rattle.demand_table.specs.Ties.{Ties}

abbrev pub shown : TableId → View → PassView
shown table v = record { table = table; seen = v }

abbrev pub board_shown : TableId → ℕ → TableView
board_shown table workers = record { id = table; workers = workers }

pub seen_is : (t : TableId) (v : View) (p : PassView) → shown t v ≡ p → v ≡ p.seen
seen_is t v p e = ap (λ (z : PassView). z.seen) e

-- the pass fits the table again, after a step
pub again : {A : Type 0} (t t' : TableId) (s s' : List A) (w : View) (found : List ℕ) (rows : List (Option ℕ)) (k : ℕ) → t' ≡ t → s' ≡ s → s ≡ [] → Ties t w found rows k → (s' ≡ []) × Ties t' w found rows k
again t t' s s' w found rows k et es none_ i = (es ∙ none_, subst (λ (z : TableId). Ties z w found rows k) (sym et) i)

pub past_end : (l : List ℕ) (i : ℕ) → length l ≤ i → get_or l i 0 ≡ 0
past_end [] i h = refl
past_end (x ∷ xs) zero h = absurd (omega arith)
past_end (x ∷ xs) (suc i) h = past_end xs i (omega arith)

-- a row that is known as published is one of the table's
pub known_low : (t : TableId) (v : View) (found : List ℕ) (rows : List (Option ℕ)) (k x : ℕ) → Ties t v found rows k → KnowsSlot v x → x < v.limit
known_low t v found rows k x i h = dite (dec_le (length found) x)
    (λ le. absurd (i.finds.all h.0 x h.1 h.2 h.3 (past_end found x le)))
    (λ no_. let wide : length found ≡ v.limit = i.finds.wide in omega (arith, no_, wide))

module _ (t t' : TableId) (v : View) (p : PassView) (d : TableView) (key : ℕ) (ep : shown t v ≡ p) (ed : board_shown t' key ≡ d) (belongs : p.table ≡ d.id) (words : t'.words ≡ total key) where
  one_table : t ≡ t'
  one_table = ap (λ (z : PassView). z.table) ep ∙ (belongs ∙ sym (ap (λ (z : TableView). z.id) ed))

  module _ (found : List ℕ) (rows : List (Option ℕ)) (k : ℕ) (i : Ties t v found rows k) where
    pub limit_is : v.limit ≡ 65536 + key
    limit_is =
        let a : t.words ≡ 37 * v.limit + 131073 = i.sizes.words in
        let b : t.words ≡ 37 * (65536 + key) + 131073 = ap (λ (z : TableId). z.words) one_table ∙ words in
        omega (arith, a, b)

    pub row_in : (x : ℕ) → x < p.seen.limit → IsRow x key
    row_in x lt = let e : v.limit ≡ p.seen.limit = ap (λ (z : PassView). z.seen.limit) ep in let l = limit_is in omega (arith, e, l, lt)

    pub reads_row : (x : ℕ) → KnowsSlot p.seen x → IsRow x key × CanRead v x
    reads_row x h =
        let g : KnowsSlot v x = subst (λ (z : View). KnowsSlot z x) (sym (seen_is t v p ep)) h in
        let low : x < v.limit = known_low t v found rows k x i g in
        let l = limit_is in
        (omega (arith, low, l), inl g)

    pub claims_row : (x : ℕ) (b : Bool) → (b ≡ true) ↔ KnowsSlot p.seen x → b ≡ true → IsRow x key × KnowsSlot v x
    claims_row x b h e =
        let g : KnowsSlot v x = subst (λ (z : View). KnowsSlot z x) (sym (seen_is t v p ep)) (h.0 e) in
        let low : x < v.limit = known_low t v found rows k x i g in
        let l = limit_is in
        (omega (arith, low, l), g)

    pub reads_claim_of : (x : ℕ) → IsClaimed p.seen x → IsRow x key × IsClaimed v x
    reads_claim_of x h =
        let g : IsClaimed v x = subst (λ (z : View). IsClaimed z x) (sym (seen_is t v p ep)) h in
        let low : x < v.limit = known_low t v found rows k x i (i.works.claims x g.0 g.1).0 in
        let l = limit_is in
        (omega (arith, low, l), g)

pub crowd_at : (t : TableId) (v w : View) (p : PassView) (q n : ℕ) → shown t v ≡ p → HasLooked q v n w → (row : List ℕ) (i : ℕ) → i ≤ slots → Clear p.seen row i → i ≤ p.seen.limit
crowd_at t v w p q n e h row i le clear =
    let s = seen_is t v p e in
    subst (λ (z : View). i ≤ z.limit) s (h.crowd row i le (subst (λ (z : View). Clear z row i) (sym s) clear))

pub in_row : (l : List ℕ) (i n : ℕ) → i < length l → n ≡ get_or l i n → get_or l i 0 ≡ n
in_row [] i n lt e = absurd (omega (arith, lt))
in_row (x ∷ xs) zero n lt e = sym e
in_row (x ∷ xs) (suc i) n lt e = in_row xs i n (omega (arith, lt)) e

module _ (t : TableId) (v : View) (p : PassView) (found : List ℕ) (rows : List (Option ℕ)) (k : ℕ) (e : shown t v ≡ p) (i : Ties t v found rows k) where
  known_seen : (x : ℕ) → KnowsSlot p.seen x → KnowsSlot v x
  known_seen x h = subst (λ (z : View). KnowsSlot z x) (sym (seen_is t v p e)) h

  -- whether a row is known as published, read off the array
  pub test_past : (x : ℕ) → length found ≤ x → (false ≡ true) ↔ KnowsSlot p.seen x
  test_past x le = (
    (λ b. absurd (true≢false (sym b))),
    λ h. let low : x < v.limit = known_low t v found rows k x i (known_seen x h) in let wide : length found ≡ v.limit = i.finds.wide in absurd (omega (arith, le, low, wide)),
  )

  pub test_is : (x n : ℕ) → x < length found → n ≡ get_or found x n → (not (eqb n 0) ≡ true) ↔ KnowsSlot p.seen x
  test_is x n lt is =
      let at = in_row found x n lt is in (
        (λ b. subst (λ (z : View). KnowsSlot z x) (seen_is t v p e) (is_known t v found rows k i x (λ z. eqb_not n 0 b (sym at ∙ z)))),
        λ h. not_eqb n 0 (λ z. not_known t v found rows k i x (at ∙ z) (known_seen x h)),
      )

  pub known_at : (x : ℕ) → KnowsSlot p.seen x → (x < length found) × (get_or found x 0 ≢ 0)
  known_at x h =
      let g = known_seen x h in
      let low : x < v.limit = known_low t v found rows k x i g in
      let wide : length found ≡ v.limit = i.finds.wide in
      (omega (arith, low, wide), λ z. not_known t v found rows k i x z g)

  pub slot_at : (x n : ℕ) → KnowsSlot p.seen x → n ≡ get_or found x n → (0 < n) × (n ≤ 131072) × Has p.seen.known (n, x + 1)
  slot_at x n h is =
      let k = known_at x h in
      let lt = k.0 in
      let at = in_row found x n lt is in
      let ne : n ≢ 0 = λ z. k.1 (at ∙ z) in
      let s = i.finds.slot x k.1 in
      (omega (arith, ne), subst (λ (z : ℕ). z ≤ 131072) at s.0, subst (λ (z : View). Has z.known (n, x + 1)) (seen_is t v p e) (subst (λ (z : ℕ). Has v.known (z, x + 1)) at s.1))

  -- the claim of a row that the view claimed is read
  module _ (x : ℕ) (h : IsClaimed p.seen x) (w : View) (n : ℕ) (r : HasReadClaim (word_of x 36) v n w) where
    claim_is : (j : ℕ) × Has p.seen.claims (x, j) × Has v.claims (x, j) × (n ≡ j + 1)
    claim_is = let g : Has v.claims (x, h.0) = subst (λ (z : View). Has z.claims (x, h.0)) (sym (seen_is t v p e)) h.1 in (h.0, h.1, g, r.1 x h.0 refl g)

    pub claim_more : 1 ≤ n
    claim_more = let a : n ≡ claim_is.0 + 1 = claim_is.3 in omega (arith, a)

    pub claim_read : w ≡ knows p.seen (word_of x 36) (n - 1 + 1)
    claim_read =
        let a : n ≡ claim_is.0 + 1 = claim_is.3 in
        let same : n ≡ n - 1 + 1 = omega (arith, a) in
        r.0 ∙ subst (λ (m : ℕ). knows v (word_of x 36) n ≡ knows p.seen (word_of x 36) m) same (ap (λ (z : View). knows z (word_of x 36) n) (seen_is t v p e))

    pub claim_worker : Has p.seen.claims (x, n - 1) × Has p.seen.workers (n - 1) × (n - 1 < 64)
    claim_worker =
        let a : n ≡ claim_is.0 + 1 = claim_is.3 in
        let same : claim_is.0 ≡ n - 1 = omega (arith, a) in
        let c = i.works.claims x claim_is.0 claim_is.2 in
        let mine : Has p.seen.workers claim_is.0 = subst (λ (z : View). Has z.workers claim_is.0) (seen_is t v p e) c.1 in
        subst (λ (m : ℕ). Has p.seen.claims (x, m) × Has p.seen.workers m × (m < 64)) same (claim_is.1, mine, i.works.few claim_is.0 c.1)

    pub claim_known : KnowsSlot p.seen x × (x < 65600)
    claim_known =
        let c = i.works.claims x claim_is.0 claim_is.2 in
        let low : x < v.limit = known_low t v found rows k x i c.0 in
        let few : v.limit ≤ 65600 = i.sizes.small in
        (subst (λ (z : View). KnowsSlot z x) (seen_is t v p e) c.0, omega (arith, low, few))

  pub limit_low : p.seen.limit ≤ 65600
  limit_low = subst (λ (z : View). z.limit ≤ 65600) (seen_is t v p e) i.sizes.small
