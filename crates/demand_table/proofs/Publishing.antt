-- An open row is put into a slot, or the slot names another.
use Rattle.std.proofs.Common.{◌≡◌, ◌≢◌, ℕ, ◌+◌, ◌-◌, ◌<◌, ◌≤◌, List, length, set, sym, ap, ◌∙◌, subst, arith}
use Rattle.std.specs.Prelude.{Option, None}
use Rattle.atomic_table.specs.Seated.{TableId}
use Rattle.table_rule.specs.declared.view.View.{View}
use Rattle.table_rule.specs.Layout.{Has, probe}
use Rattle.table_rule.specs.Views.{knows, published}
use Rattle.table_rule.specs.Tells.{Clear, IsReady, HasPublished}
use Rattle.table_rule.proofs.Lists.{at_within}
use Rattle.table_rule.proofs.Rows.{probe_high}
use Rattle.demand_table.specs.Passes.{PassView}
use Rattle.demand_table.specs.Ties.{Ties}
use Rattle.demand_table.proofs.Tied.{ties_named, ties_published}
use Rattle.demand_table.proofs.Shown.{shown, seen_is}

-- the row x is held with worker k, and may be put into the slot
abbrev pub AtHand : View → ℕ → ℕ → ℕ → Type 0
AtHand v k x slot = (ws : List ℕ) × (words : List ℕ) × (i : ℕ) × (m : ℕ) × (parent : Option ℕ) × Has v.held (k, (x, ws)) × IsReady v ws words m parent × (slot + 1 ≡ probe words i) × Clear v words i

module _ (t : TableId) (v : View) (p : PassView) (found : List ℕ) (rows : List (Option ℕ)) (worker : ℕ) (e : shown t v ≡ p) (i : Ties t v found rows worker) (k x slot : ℕ) (r : AtHand p.seen k x slot) where
  pub at_hand : Has v.held (k, (x, r.0)) × IsReady v r.0 r.1 r.3 r.4 × (slot + 1 ≡ probe r.1 r.2) × Clear v r.1 r.2
  at_hand = subst (λ (z : View). Has z.held (k, (x, r.0)) × IsReady z r.0 r.1 r.3 r.4 × (slot + 1 ≡ probe r.1 r.2) × Clear z r.1 r.2) (sym (seen_is t v p e)) (r.5, r.6, r.7, r.8)

  pub slot_low : slot + 1 ≤ 131072
  slot_low = subst (λ (z : ℕ). z ≤ 131072) (sym r.7) (probe_high r.1 r.2)

  pub worker_low : k < 64
  worker_low =
      let lt : k < length rows = at_within rows k _ (i.holds.all k x r.0 at_hand.0).0 in
      let wide : length rows ≡ 64 = i.holds.wide in
      omega (arith, lt, wide)

  module _ (w : View) (n : ℕ) (told : (k m : ℕ) (parent : Option ℕ) (ws words : List ℕ) → Has v.held (k, (x, ws)) → IsReady v ws words m parent → HasPublished (slot + 1) x m parent v n w) where
    here : HasPublished (slot + 1) x r.3 r.4 v n w
    here = told k r.3 r.4 r.0 r.1 at_hand.0 at_hand.1

    pub publishes_ties : n ≡ 0 → x < p.seen.limit → Ties t w (set found x (slot + 1)) (set rows k None) worker
    publishes_ties z lt =
        let low : x < v.limit = subst (λ (u : View). x < u.limit) (sym (seen_is t v p e)) lt in
        ties_published t v found rows worker i w (slot + 1) x k r.3 r.4 r.0 (here.0 z) low at_hand.0 (omega arith) slot_low

    pub publishes_is : n ≡ 0 → (m : ℕ) (parent : Option ℕ) (ws words : List ℕ) → Has p.seen.held (k, (x, ws)) → IsReady p.seen ws words m parent → w ≡ published p.seen (slot + 1) x m parent
    publishes_is z m parent ws words held ready =
        let s = seen_is t v p e in
        let h = subst (λ (u : View). Has u.held (k, (x, ws))) (sym s) held in
        let y = subst (λ (u : View). IsReady u ws words m parent) (sym s) ready in
        (told k m parent ws words h y).0 z ∙ ap (λ (u : View). published u (slot + 1) x m parent) s

    pub named_low : n ≢ 0 → n - 1 < length found
    named_low ne = let le : n ≤ v.limit = (here.1 ne).1 in let wide : length found ≡ v.limit = i.finds.wide in omega (arith, le, wide, ne)

    pub named_ties : n ≢ 0 → Ties t w (set found (n - 1) (slot + 1)) rows worker
    named_ties ne = let h = here.1 ne in ties_named t v found rows worker i w (slot + 1) n h.0 ne h.1 (omega arith) slot_low

    pub named_is : n ≢ 0 → w ≡ knows p.seen (slot + 1) (n - 1 + 1)
    named_is ne =
        let same : n ≡ n - 1 + 1 = omega (arith, ne) in
        (here.1 ne).0 ∙ subst (λ (m : ℕ). knows v (slot + 1) n ≡ knows p.seen (slot + 1) m) same (ap (λ (z : View). knows z (slot + 1) n) (seen_is t v p e))
