-- The search for a row's place goes on.
use Rattle.std.proofs.Common.{◌≡◌, ℕ, ◌+◌, ◌%◌, ◌<◌, ◌≤◌, List, [], ◌∷◌, length, get_or, sym, refl, ap, ◌∙◌, subst, inl, inr, ⊎_elim, arith}
use Rattle.std.specs.Prelude.{Option, Some, None}
use mathlib.Core.Logic.{dite}
use native.Mathlib.Decide.{ℕ_discrete}
use Rattle.table_rule.specs.declared.view.View.{View}
use Rattle.table_rule.specs.Layout.{Has, word_of, home, probe}
use Rattle.table_rule.specs.Views.{opened, writes, knows, saw_empty, published}
use Rattle.table_rule.specs.Tells.{KnowsSlot, KnowsRow, KnowsOther, Clear, IsBookedUnder}
use Rattle.table_rule.proofs.Lists.{has_right, at_within, read_at}
use Rattle.table_rule.proofs.Rows.{probe_low, probe_high}
use Rattle.demand_table.specs.Passes.{HasLearned}
use Rattle.demand_table.specs.Seeking.{Later, IsSeeking, IsBooked, AreSame}

pub later_refl : (v : View) → Later v v
later_refl v = record { workers = refl; lead = refl; limit = refl; claims = refl; known = λ q n h. h }

pub later_same : (v w : View) → w ≡ v → Later v w
later_same v w e = subst (λ (z : View). Later v z) (sym e) (later_refl v)

pub later_trans : (v w u : View) → Later v w → Later w u → Later v u
later_trans v w u a b = record {
  workers = b.workers ∙ a.workers;
  lead = b.lead ∙ a.lead;
  limit = b.limit ∙ a.limit;
  claims = b.claims ∙ a.claims;
  known = λ q n h. b.known q n (a.known q n h);
}

pub later_learned : (v w : View) → HasLearned v w → Later v w
later_learned v w h = subst (λ (z : View). Later v z) (sym h.1) record { workers = refl; lead = refl; limit = refl; claims = refl; known = λ q n k. has_right h.0 v.known (q, n) k }

pub learned_refl : (v : View) → HasLearned v v
learned_refl v = ([], refl)

pub learned_one : (v w : View) (q n : ℕ) → w ≡ knows v q n → HasLearned v w
learned_one v w q n e = ((q, n) ∷ [], e)

pub learned_more : (v w u : View) (q n : ℕ) → HasLearned v w → u ≡ knows w q n → HasLearned v u
learned_more v w u q n h e = ((q, n) ∷ h.0, e ∙ ap (λ (z : View). knows z q n) h.1)

pub made_learned : (v w : View) → HasLearned v w → w.made ≡ v.made
made_learned v w h = ap (λ (z : View). z.made) h.1

pub later_knows : (v w : View) (q n : ℕ) → w ≡ knows v q n → Later v w
later_knows v w q n e = later_learned v w (learned_one v w q n e)

pub later_empty : (v w : View) (p : ℕ) → w ≡ saw_empty v p → Later v w
later_empty v w p e = subst (λ (z : View). Later v z) (sym e) record { workers = refl; lead = refl; limit = refl; claims = refl; known = λ q n k. k }

pub later_opened : (v w : View) (x : ℕ) → w ≡ opened v x → Later v w
later_opened v w x e = subst (λ (z : View). Later v z) (sym e) record { workers = refl; lead = refl; limit = refl; claims = refl; known = λ q n k. k }

pub later_writes : (v w : View) (x j a : ℕ) → w ≡ writes v x j a → Later v w
later_writes v w x j a e = subst (λ (z : View). Later v z) (sym e) record { workers = refl; lead = refl; limit = refl; claims = refl; known = λ q n k. k }

pub later_published : (v w : View) (p x m : ℕ) (parent : Option ℕ) → w ≡ published v p x m parent → Later v w
later_published v w p x m parent e = subst (λ (z : View). Later v z) (sym e) record { workers = refl; lead = refl; limit = refl; claims = refl; known = λ q n k. has_right _ v.known (q, n) k }

pub told_knows : (v w : View) (q n : ℕ) → w ≡ knows v q n → Has w.known (q, n)
told_knows v w q n e = subst (λ (z : View). Has z.known (q, n)) (sym e) (0, refl)

pub slot_later : (v w : View) (x : ℕ) → Later v w → KnowsSlot v x → KnowsSlot w x
slot_later v w x l h = (h.0, h.1, h.2, l.known _ _ h.3)

pub other_later : (v w : View) (y : ℕ) (row : List ℕ) → Later v w → KnowsOther v y row → KnowsOther w y row
other_later v w y row l h = ⊎_elim
    (λ a. inl (a.0, l.known _ _ a.1, a.2))
    (λ a. inr (a.0, a.1, a.2, l.known _ _ a.3, a.4, a.5))
    h

pub clear_later : (v w : View) (row : List ℕ) (i : ℕ) → Later v w → Clear v row i → Clear w row i
clear_later v w row i l c j lt = let h = c j lt in (h.0, l.known _ _ h.1, other_later v w h.0 row l h.2)

pub clear_more : (v : View) (row : List ℕ) (i y : ℕ) → Clear v row i → Has v.known (probe row i, y + 1) → KnowsOther v y row → Clear v row (i + 1)
clear_more v row i y c known other j lt = dite (ℕ_discrete j i)
    (λ e. (y, subst (λ (z : ℕ). Has v.known (probe row z, y + 1)) (sym e) known, other))
    (λ ne. c j (omega (arith, lt, ne)))

pub booked_later : (v w : View) (m g : ℕ) (parent : Option ℕ) → Later v w → IsBooked v m g parent → IsBooked w m g parent
booked_later v w m g parent l b = record {
  maker = subst (λ (z : List ℕ). Has z m) (sym l.workers) b.maker;
  few = b.few;
  low = b.low;
  near = b.near;
  under = under parent b.under;
}
  where
    under : (o : Option ℕ) → IsBookedUnder v g m o → IsBookedUnder w g m o
    under None u = u
    under (Some y) u = (u.0, subst (λ (z : List (ℕ × ℕ)). Has z (y, m)) (sym l.claims) u.1, l.known _ _ u.2, u.3)

pub slot_is : (row : List ℕ) (i : ℕ) → (home row + i) % 131072 + 1 ≡ probe row i
unfolding probe
slot_is row i = refl

pub slot_named : (v : View) (row : List ℕ) (i y p : ℕ) → p ≡ probe row i → Has v.known (p, y + 1) → KnowsSlot v y
slot_named v row i y p e h = (p, subst (λ (z : ℕ). 0 < z) (sym e) (probe_low row i), subst (λ (z : ℕ). z ≤ 131072) (sym e) (probe_high row i), h)

-- the search begins
pub seek_none : (v w : View) (row : List ℕ) → Later v w → w.made ≡ v.made → IsSeeking v w row 0
seek_none v w row l m = record { later = l; made = m; clear = λ j lt. absurd (omega (arith, lt)); few = omega arith }

-- the slot names a row with other words
pub seek_more : (v w u t : View) (row : List ℕ) (i y : ℕ) → IsSeeking v w row i → Later w u → u.made ≡ w.made → Has u.known ((home row + i) % 131072 + 1, y + 1) → HasLearned u t → KnowsOther t y row → i ≤ w.limit → IsSeeking v t row (i + 1)
seek_more v w u t row i y s l m known h other le =
    let lt = later_learned u t h in
    let all = later_trans v w t s.later (later_trans w u t l lt) in
    let c = clear_later w t row i (later_trans w u t l lt) s.clear in
    let k = lt.known _ _ (subst (λ (z : ℕ). Has u.known (z, y + 1)) (slot_is row i) known) in
    let same : t.limit ≡ w.limit = (later_trans w u t l lt).limit in
    record {
      later = all;
      made = made_learned u t h ∙ (m ∙ s.made);
      clear = clear_more t row i y c k other;
      few = omega (arith, le, same);
    }

-- the words that were read so far are the row's
pub same_none : (v : View) (x : ℕ) (row : List ℕ) → AreSame 0 v x row
same_none v x row j lt = absurd (omega (arith, lt))

pub same_more : (v w : View) (n x a b : ℕ) (row : List ℕ) → AreSame n v x row → w ≡ knows v (word_of x (n + 1)) a → a ≡ b → b ≡ get_or row n 0 → AreSame (n + 1) w x row
same_more v w n x a b row s e ab is j lt = dite (ℕ_discrete j n)
    (λ same. subst (λ (z : ℕ). Has w.known (word_of x (z + 1), get_or row z 0)) (sym same) (subst (λ (z : ℕ). Has w.known (word_of x (n + 1), z)) (ab ∙ is) (told_knows v w _ a e)))
    (λ ne. (later_knows v w _ a e).known _ _ (s j (omega (arith, lt, ne))))

pub knows_row : (v : View) (x h : ℕ) (row : List ℕ) → Has v.known (word_of x 0, h) → h % 64 ≡ length row → AreSame (length row) v x row → KnowsRow v x row
knows_row v x h row head is s = record {
  head = (h, head, is);
  each = λ j a e. subst (λ (z : ℕ). Has v.known (word_of x (j + 1), z)) (read_at row j a e) (s j (at_within row j a e));
}

pub row_later : (v w : View) (x : ℕ) (row : List ℕ) → Later v w → KnowsRow v x row → KnowsRow w x row
row_later v w x row l k = record { head = (k.head.0, l.known _ _ k.head.1, k.head.2); each = λ j a e. l.known _ _ (k.each j a e) }
