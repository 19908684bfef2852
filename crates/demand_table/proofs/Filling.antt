-- An open row is filled, and then published.
use Rattle.std.proofs.Common.{◌≡◌, ℕ, suc, ◌+◌, ◌*◌, ◌/◌, ◌%◌, ◌<◌, ◌≤◌, List, [], ◌∷◌, length, map, get_or, set, sym, refl, ap, ◌∙◌, subst, arith, length-set, get_or-set_same, get_or-set_other}
use Rattle.std.specs.Prelude.{Option}
use mathlib.Core.Logic.{dite}
use native.Mathlib.Decide.{ℕ_discrete}
use Rattle.table_rule.specs.declared.view.View.{View}
use Rattle.table_rule.specs.Layout.{Has, word_of, span, content_at, named}
use Rattle.table_rule.specs.Views.{Held, writes, put, pairs_of, published}
use Rattle.table_rule.specs.Tells.{KnowsSlot, KnowsRow, IsReady, IsBookedUnder}
use Rattle.table_rule.proofs.Lists.{has_map, has_left, has_right, at_get}
use Rattle.table_rule.proofs.Rows.{put_here, pairs_of_has}
use Rattle.demand_table.specs.Seeking.{IsBooked, Fills}
use Rattle.demand_table.proofs.Seeking.{later_trans, later_writes, knows_row}

pub held_writes : (v w : View) (k x j a : ℕ) (ws : List ℕ) → w ≡ writes v x j a → Has v.held (k, (x, ws)) → Has w.held (k, (x, set ws j a))
held_writes v w k x j a ws e h = subst (λ (z : View). Has z.held (k, (x, set ws j a))) (sym e)
    (subst (λ (z : Held). Has (map (put x j a) v.held) z) (put_here x j a k ws) (has_map (put x j a) v.held (k, (x, ws)) h))

pub made_writes : (v w : View) (x j a : ℕ) → w ≡ writes v x j a → w.made ≡ v.made
made_writes v w x j a e = ap (λ (z : View). z.made) e

-- head and origin are written
pub fills_none : (v w u : View) (k x first last : ℕ) (row ws : List ℕ) → Has v.held (k, (x, ws)) → length ws ≡ 36 → w ≡ writes v x 0 first → u ≡ writes w x 35 last → Fills 0 v u k x first last row
fills_none v w u k x first last row ws h long ew eu =
    let h1 = held_writes v w k x 0 first ws ew h in
    let h2 = held_writes w u k x 35 last (set ws 0 first) eu h1 in
    let l1 : length (set ws 0 first) ≡ 36 = length-set ws 0 first ∙ long in
    record {
      later = later_trans v w u (later_writes v w x 0 first ew) (later_writes w u x 35 last eu);
      made = made_writes w u x 35 last eu ∙ made_writes v w x 0 first ew;
      ws = set (set ws 0 first) 35 last;
      held = h2;
      filled = record {
        long = length-set (set ws 0 first) 35 last ∙ l1;
        head = get_or-set_other (set ws 0 first) 35 0 last 0 (λ e. omega (arith, e)) ∙ get_or-set_same ws 0 first 0 (omega (arith, long));
        origin = get_or-set_same (set ws 0 first) 35 last 0 (omega (arith, l1));
        words = λ j lt. absurd (omega (arith, lt));
      };
    }

-- one more word is written
pub fills_more : (n : ℕ) (v w u : View) (k x first last a : ℕ) (row : List ℕ) → Fills n v w k x first last row → n < 34 → a ≡ get_or row n 0 → u ≡ writes w x (n + 1) a → Fills (n + 1) v u k x first last row
fills_more n v w u k x first last a row f lt is e =
    let g = f.filled in
    let long : length f.ws ≡ 36 = g.long in
    record {
      later = later_trans v w u f.later (later_writes w u x (n + 1) a e);
      made = made_writes w u x (n + 1) a e ∙ f.made;
      ws = set f.ws (n + 1) a;
      held = held_writes w u k x (n + 1) a f.ws e f.held;
      filled = record {
        long = length-set f.ws (n + 1) a ∙ g.long;
        head = get_or-set_other f.ws (n + 1) 0 a 0 (λ e'. omega (arith, e')) ∙ g.head;
        origin = get_or-set_other f.ws (n + 1) 35 a 0 (λ e'. omega (arith, e', lt)) ∙ g.origin;
        words = λ j up. dite (ℕ_discrete j n)
            (λ same. subst (λ (z : ℕ). get_or (set f.ws (n + 1) a) (z + 1) 0 ≡ get_or row z 0) (sym same) (get_or-set_same f.ws (n + 1) a 0 (omega (arith, long, lt)) ∙ is))
            (λ ne. get_or-set_other f.ws (n + 1) (j + 1) a 0 (λ e'. ne (omega (arith, e'))) ∙ g.words j (omega (arith, up, ne)));
      };
    }

pub span_row : (ws row : List ℕ) (at : ℕ) → ((j : ℕ) → j < length row → get_or ws (at + j) 0 ≡ get_or row j 0) → span ws at (length row) ≡ row
span_row ws [] at h = refl
span_row ws (x ∷ xs) at h =
    let here : at + 0 ≡ at = omega arith in
    let first : get_or ws at 0 ≡ x = ap (λ (i : ℕ). get_or ws i 0) (sym here) ∙ h 0 (omega arith) in
    let rest = span_row ws xs (at + 1) (λ j lt. let next : at + 1 + j ≡ at + suc j = omega arith in ap (λ (i : ℕ). get_or ws i 0) next ∙ h (suc j) (omega (arith, lt))) in
    λ i. first i ∷ rest i

module _ (v w : View) (k x g m : ℕ) (parent : Option ℕ) (row : List ℕ) (few : length row ≤ 34) (f : Fills (length row) v w k x (64 * g + length row) (m + 64 * named parent) row) where
  head_length : get_or f.ws 0 0 % 64 ≡ length row
  head_length = let e : get_or f.ws 0 0 ≡ 64 * g + length row = f.filled.head in let n : ℕ = length row in omega (arith, e, few)

  head_generation : get_or f.ws 0 0 / 64 ≡ g
  head_generation = let e : get_or f.ws 0 0 ≡ 64 * g + length row = f.filled.head in omega (arith, e, few)

  content_row : content_at f.ws 0 ≡ row
  content_row = ap (λ (n : ℕ). span f.ws 1 n) head_length ∙ span_row f.ws row 1 (λ j lt. let next : 1 + j ≡ j + 1 = omega arith in ap (λ (i : ℕ). get_or f.ws i 0) next ∙ f.filled.words j lt)

  -- it may be published
  pub ready : IsBooked w m g parent → IsReady w f.ws row m parent
  ready b = record {
    short = subst (λ (n : ℕ). n ≤ 34) (sym head_length) few;
    content = content_row;
    origin = f.filled.origin;
    maker = b.maker;
    under = subst (λ (n : ℕ). IsBookedUnder w n m parent) (sym head_generation) b.under;
  }

  module _ (u : View) (p : ℕ) (e : u ≡ published w p x m parent) (lo : 0 < p) (hi : p ≤ 131072) where
    -- the view knows the row that it published
    pub published_slot : KnowsSlot u x
    published_slot = subst (λ (z : View). KnowsSlot z x) (sym e) (p, lo, hi, has_left _ w.known (p, x + 1) (has_right (pairs_of x w.held) ((p, x + 1) ∷ []) (p, x + 1) (0, refl)))

    word_known : (j : ℕ) → j < 36 → Has u.known (word_of x j, get_or f.ws j 0)
    word_known j lt =
        let long : length f.ws ≡ 36 = f.filled.long in
        subst (λ (z : View). Has z.known (word_of x j, get_or f.ws j 0)) (sym e)
        (has_left _ w.known _ (has_left (pairs_of x w.held) ((p, x + 1) ∷ []) _ (pairs_of_has x w.held k f.ws j (get_or f.ws j 0) f.held (at_get f.ws j (omega (arith, lt, long))))))

    pub published_row : KnowsRow u x row
    published_row = knows_row u x (get_or f.ws 0 0) row (word_known 0 (omega arith)) head_length
        (λ j lt. subst (λ (n : ℕ). Has u.known (word_of x (j + 1), n)) (f.filled.words j lt) (word_known (j + 1) (omega (arith, lt, few))))

    pub published_made : u.made ≡ (x, (m, parent)) ∷ v.made
    published_made = ap (λ (z : View). z.made) e ∙ ap (λ (l : List (ℕ × (ℕ × Option ℕ))). (x, (m, parent)) ∷ l) f.made
