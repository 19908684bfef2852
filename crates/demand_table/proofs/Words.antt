-- The words of a published row are read.
use Rattle.std.proofs.Common.{◌≡◌, ◌≢◌, ℕ, zero, suc, ◌+◌, ◌%◌, ◌<◌, ◌≤◌, List, [], ◌∷◌, ◌++◌, length, get_or, set, take, sym, refl, ap, ◌∙◌, subst, arith, length-set, get_or-set_same, get_or-set_other, append_assoc, inr}
use Rattle.std.specs.Prelude.{Option, Some, None, SomeIff, IfSome}
use Rattle.std.proofs.lemmas.List.{length-take-le}
use mathlib.Core.Logic.{dite}
use native.Mathlib.Decide.{ℕ_discrete}
use Rattle.table_rule.specs.declared.view.View.{View}
use Rattle.table_rule.specs.Layout.{Has, word_of}
use Rattle.table_rule.specs.Views.{knows, learns}
use Rattle.table_rule.specs.Tells.{KnowsSlot, KnowsRow, KnowsOther}
use Rattle.table_rule.proofs.Lists.{at_get}
use Rattle.demand_table.specs.Passes.{HasLearned}
use Rattle.demand_table.specs.Seeking.{AreRead}
use Rattle.demand_table.proofs.Seeking.{later_learned, later_knows, told_knows, knows_row}

pub learned_trans : (v w u : View) → HasLearned v w → HasLearned w u → HasLearned v u
learned_trans v w u a b = (b.0 ++ a.0, b.1 ∙ (ap (λ (z : View). learns z b.0) a.1 ∙ ap (λ (l : List (ℕ × ℕ)). record { workers = v.workers; lead = v.lead; limit = v.limit; held = v.held; known = l; made = v.made; claims = v.claims; empties = v.empties }) (sym (append_assoc b.0 a.0 v.known))))

pub read_more : (v w : View) (n x a : ℕ) (kept : List ℕ) → AreRead n v x kept → n < 34 → w ≡ knows v (word_of x (n + 1)) a → AreRead (n + 1) w x (set kept n a)
read_more v w n x a kept r lt e =
    let wide : length kept ≡ 34 = r.0 in (
      length-set kept n a ∙ r.0,
      λ j up. dite (ℕ_discrete j n)
          (λ same. subst (λ (z : ℕ). Has w.known (word_of x (z + 1), get_or (set kept n a) z 0)) (sym same) (subst (λ (z : ℕ). Has w.known (word_of x (n + 1), z)) (sym (get_or-set_same kept n a 0 (omega (arith, lt, wide)))) (told_knows v w _ a e)))
          (λ ne. subst (λ (z : ℕ). Has w.known (word_of x (j + 1), z)) (sym (get_or-set_other kept n j a 0 ne)) ((later_knows v w _ a e).known _ _ (r.1 j (omega (arith, up, ne))))),
    )

take_at : (l : List ℕ) (n j : ℕ) → j < n → get_or (take n l) j 0 ≡ get_or l j 0
take_at l zero j lt = absurd (omega (arith, lt))
take_at [] (suc n) j lt = refl
take_at (x ∷ xs) (suc n) zero lt = refl
take_at (x ∷ xs) (suc n) (suc j) lt = take_at xs n j (omega (arith, lt))

row_read : (v : View) (n x h : ℕ) (kept : List ℕ) → AreRead n v x kept → n ≤ 34 → Has v.known (word_of x 0, h) → h % 64 ≡ n → KnowsRow v x (take n kept)
row_read v n x h kept r few head is =
    let wide : length kept ≡ 34 = r.0 in
    let long : length (take n kept) ≡ n = length-take-le n kept (omega (arith, few, wide)) in
    knows_row v x h (take n kept) head (is ∙ sym long) (λ j lt.
    let low : j < n = omega (arith, lt, long) in
    subst (λ (z : ℕ). Has v.known (word_of x (j + 1), z)) (sym (take_at kept n j low)) (r.1 j low))

-- the row that was read
pub reads_some : (o : Option (List ℕ)) (v w u : View) (n x h : ℕ) (kept : List ℕ) → SomeIff o (length (take n kept) ≤ 34) (take n kept) → KnowsSlot v x → n ≤ 34 → w ≡ knows v (word_of x 0) h → h % 64 ≡ n → HasLearned w u → AreRead n u x kept
    → IfSome o (λ row. KnowsSlot v x × KnowsRow u x row)
reads_some None v w u n x h kept s known few e is l r = tt
reads_some (Some row) v w u n x h kept s known few e is l r = (known, subst (λ (z : List ℕ). KnowsRow u x z) (sym s.1) (row_read u n x h kept r few (has_learned w u _ _ l (told_knows v w _ h e)) is))
  where
    has_learned : (w u : View) (q m : ℕ) → HasLearned w u → Has w.known (q, m) → Has u.known (q, m)
    has_learned w u q m l h = (later_learned w u l).known q m h

-- a word differs
pub other_word : (v w : View) (x n a b : ℕ) (row : List ℕ) → n < length row → w ≡ knows v (word_of x (n + 1)) a → a ≢ b → b ≡ get_or row n 0 → KnowsOther w x row
other_word v w x n a b row lt e ne is = inr (n, get_or row n 0, a, told_knows v w _ a e, at_get row n lt, λ s. ne (s ∙ sym is))
