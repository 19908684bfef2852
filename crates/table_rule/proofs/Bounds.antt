-- What the rule bounds: drawn numbers, chains, and generations; published rows differ.
use Rattle.std.proofs.Common.{◌≡◌, ◌≢◌, ℕ, zero, suc, ◌+◌, ◌-◌, ◌<◌, ◌≤◌, List, [], ◌∷◌, length, get_or, sym, refl, ap, ◌∙◌, subst, arith}
use mathlib.Core.Option.{some, some-injective}
use native.Mathlib.Decide.{dec_le}
use lib.ListN.{get_elem?}
use Rattle.table_rule.specs.declared.view.View.{View}
use Rattle.table_rule.specs.Layout.{Has, slots, content, generation, probe}
use Rattle.table_rule.specs.Rule.{Status, open_with, at_slot, IsOpen, IsPublished, Keeps, Rule}
use Rattle.table_rule.specs.Tells.{Clear, IsSane}
use Rattle.table_rule.proofs.Lists.{at_within, at_get, has_first}
use Rattle.table_rule.proofs.Rows.{probe_low, probe_high, probe_one}
use Rattle.table_rule.proofs.Growing.{one_place, one_worker}
use Rattle.table_rule.proofs.Pigeons.{pigeon}

at_status : (l : List Status) (j : ℕ) → j < length l → (t : Status) × (get_elem? l j ≡ some t)
at_status [] j h = absurd (omega arith)
at_status (x ∷ xs) zero h = (x, refl)
at_status (x ∷ xs) (suc j) h = at_status xs j (omega arith)

-- each row has a number below the rows, and beyond them that of its worker
code : (m x k : ℕ) → Dec (m ≤ x) → ℕ
code m x k (yes e) = m + k
code m x k (no e) = x

code_below : (m b x k : ℕ) (q : Dec (m ≤ x)) → (m ≤ x → k < b) → code m x k q < m + b
unfolding code
code_below m b x k (yes e) h = let lt = h e in omega arith
code_below m b x k (no ne) h = omega arith

code_one : (m x y k l : ℕ) (p : Dec (m ≤ x)) (q : Dec (m ≤ y)) → (m ≤ x → m ≤ y → k ≡ l → x ≡ y) → code m x k p ≡ code m y l q → x ≡ y
unfolding code
code_one m x y k l (yes e) (yes f) h is = h e f (omega arith)
code_one m x y k l (yes e) (no f) h is = absurd (f (omega arith))
code_one m x y k l (no e) (yes f) h is = absurd (e (omega arith))
code_one m x y k l (no e) (no f) h is = is

worker_at : List Status → ℕ → ℕ
worker_at [] x = 0
worker_at (open_with k ∷ l) zero = k
worker_at (at_slot p ∷ l) zero = 0
worker_at (t ∷ l) (suc x) = worker_at l x

worker_is : (l : List Status) (x k : ℕ) → IsOpen l x k → worker_at l x ≡ k
unfolding worker_at
worker_is [] x k e = absurd (mathlib.Core.Option.some-ne-none (open_with k) (sym e))
worker_is (open_with m ∷ l) zero k e = Rattle.table_rule.proofs.Growing.same_open m k (some-injective (open_with m) (open_with k) e)
worker_is (at_slot p ∷ l) zero k e = absurd (Rattle.table_rule.proofs.Growing.open_slot k p (sym (some-injective (at_slot p) (open_with k) e)))
worker_is (open_with m ∷ l) (suc x) k e = worker_is l x k e
worker_is (at_slot m ∷ l) (suc x) k e = worker_is l x k e

equal : (i j : ℕ) → (i < j → ⊥) → (j < i → ⊥) → i ≡ j
equal i j f g = omega arith

module _ (b : ℕ) (words : List ℕ) (views : List View) (r : Rule b words views) where
  abbrev m : ℕ
  m = 65536 + b

  beyond : (x : ℕ) (t : Status) → get_elem? r.rows x ≡ some t → m ≤ x → (k : ℕ) × IsOpen r.rows x k
  beyond x (open_with k) e far = (k, e)
  beyond x (at_slot p) e far = let lt = r.numbers.below x p e in absurd (omega arith)

  far_open : (x : ℕ) → x < length r.rows → m ≤ x → IsOpen r.rows x (worker_at r.rows x)
  far_open x h far = let t = at_status r.rows x h in let o = beyond x t.0 t.1 far in subst (IsOpen r.rows x) (sym (worker_is r.rows x o.0 o.1)) o.1

  pub drawn_few : length r.rows ≤ 65536 + b + b
  drawn_few = pigeon (m + b) (length r.rows) (λ x. code m x (worker_at r.rows x) (dec_le m x))
      (λ x h. code_below m b x (worker_at r.rows x) (dec_le m x) (λ far. r.numbers.few x (worker_at r.rows x) (far_open x h far)))
      (λ x y hx hy e. code_one m x y (worker_at r.rows x) (worker_at r.rows y) (dec_le m x) (dec_le m y)
      (λ fx fy same. r.numbers.apart x y (worker_at r.rows x) (far_open x hx fx) (subst (IsOpen r.rows y) (sym same) (far_open y hy fy))) e)

  -- of two published rows with the same words, neither comes first in the chain
  not_before : (x y p q : ℕ) → (ex : IsPublished r.rows x p) → (ey : IsPublished r.rows y q) → content words x ≡ content words y → (r.chains.chain x p ex).0 < (r.chains.chain y q ey).0 → ⊥
  not_before x y p q ex ey same lt =
      let t = r.chains.chain x p ex in
      let u = r.chains.chain y q ey in
      let o = u.2 t.0 lt in
      let here : probe (content words y) t.0 ≡ p = ap (λ (a : List ℕ). probe a t.0) (sym same) ∙ sym t.1 in
      let named : IsPublished r.rows o.0 p = subst (λ (z : ℕ). IsPublished r.rows o.0 z) here o.1 in
      let e1 = (r.numbers.slot o.0 p named).2 in
      let e2 = (r.numbers.slot x p ex).2 in
      let is : o.0 ≡ x = omega (arith, e1, e2) in
      o.2 (ap (λ (z : ℕ). content words z) is ∙ same)

  -- published rows have different words
  pub distinct : (x y p q : ℕ) → IsPublished r.rows x p → IsPublished r.rows y q → content words x ≡ content words y → x ≡ y
  distinct x y p q ex ey same =
      let t = r.chains.chain x p ex in
      let u = r.chains.chain y q ey in
      let le : t.0 ≡ u.0 = equal t.0 u.0 (not_before x y p q ex ey same) (not_before y x q p ey ex (sym same)) in
      let pq : p ≡ q = t.1 ∙ ((λ i. probe (same i) (le i)) ∙ sym u.1) in
      let e1 = (r.numbers.slot x p ex).2 in
      let e2 : get_or words p 0 ≡ y + 1 = subst (λ (z : ℕ). get_or words z 0 ≡ y + 1) (sym pq) (r.numbers.slot y q ey).2 in
      omega (arith, e1, e2)

  -- no more rows are published than there are, and each generation is below their number
  pub published_few : length r.order ≤ 65536 + b
  published_few = pigeon (65536 + b) (length r.order) (λ i. get_or r.order i 0)
      (λ i lt. let x : ℕ = get_or r.order i 0 in let o = r.origins.ordered i x (at_get r.order i lt) in r.numbers.below x o.0 o.1)
      (λ i j hi hj e. r.origins.single i j (get_or r.order j 0) (at_get r.order i hi ∙ ap (λ (z : ℕ). some z) e) (at_get r.order j hj))

  pub generation_low : (x p : ℕ) → IsPublished r.rows x p → generation words x < 65536 + b
  generation_low x p e = let j = r.origins.listed x p e in let o = r.origins.ordered j.0 x j.1 in let le : generation words x ≤ j.0 = o.2 in let lt : j.0 < length r.order = at_within r.order j.0 x j.1 in
      let few : length r.order ≤ 65536 + b = published_few in let g : ℕ = generation words x in omega arith

  module _ (id : ℕ) (v : View) (at : get_elem? views id ≡ some v) (live : 0 < length v.workers) where
    s : Keeps b words r.rows v
    s = r.each id v at

    pub size_is : v.limit ≡ 65536 + b
    size_is = let k = has_first v.workers live in s.workers.limit k.0 k.1

    pub lead_is : Has v.workers v.lead
    lead_is = let k = has_first v.workers live in (s.workers.least k.0 k.1).0

    -- what a slot names is a row of the table
    pub within : (p n : ℕ) → 0 < p → p ≤ 131072 → get_or words p 0 ≡ n → n ≢ 0 → n ≤ v.limit
    within p zero lo hi is ne = absurd (ne refl)
    within p (suc x) lo hi is ne =
        let e : v.limit ≡ 65536 + b = size_is in
        let q : get_or words p 0 ≡ x + 1 = omega (arith, is) in
        let lt : x < 65536 + b = r.numbers.below x p (r.numbers.named p x lo hi q) in
        omega arith

    -- a chain is no longer than there are rows
    pub crowd : (row : List ℕ) (i : ℕ) → i ≤ slots → Clear v row i → i ≤ v.limit
    crowd row i le clear =
        let e : v.limit ≡ 65536 + b = size_is in
        let le' : i ≤ 131072 = le in
        let names : (j : ℕ) → j < i → (y : ℕ) × IsPublished r.rows y (probe row j) × (get_or words (probe row j) 0 ≡ y + 1) × (y < 65536 + b) = λ j lt. (
        let c = clear j lt in
        let w = s.knows (probe row j) (c.0 + 1) c.1 in
        let n = r.numbers.named (probe row j) c.0 (probe_low row j) (probe_high row j) w.0 in
        (c.0, n, w.0, r.numbers.below c.0 (probe row j) n)) in
        let few : i ≤ 65536 + b = pigeon (65536 + b) i (λ j. get_or words (probe row j) 0 - 1)
        (λ j lt. let n = names j lt in let w = n.2 in let lo = n.3 in omega (arith, w, lo))
        (λ j l hj hl is. let n = names j hj in let o = names l hl in let w = n.2 in let u = o.2 in
        let same : n.0 ≡ o.0 = omega (arith, w, u, is) in
        probe_one row j l (omega arith) (omega arith) (one_place r.rows o.0 (probe row j) (probe row l) (subst (λ (z : ℕ). IsPublished r.rows z (probe row j)) same n.1) o.1)) in
        omega arith

    pub sane : IsSane v
    sane = record {
      held = λ k x y ws us h g. r.numbers.apart x y k (s.opens.shown x k ws h).0 (s.opens.shown y k us g).0;
      holder = λ k l x ws us h g. one_worker r.rows x k l (s.opens.shown x k ws h).0 (s.opens.shown x l us g).0;
      workers = λ k x ws h. let lt : k < b = r.numbers.few x k (s.opens.shown x k ws h).0 in let few : b ≤ 64 = r.numbers.narrow in omega arith;
      claims = s.claims.once;
      known = λ q n o h g. sym (s.knows q n h).0 ∙ (s.knows q o g).0;
    }
