-- Which rows are held, read off the array of open rows.
use Rattle.std.proofs.Common.{◌≡◌, ℕ, zero, suc, ◌+◌, ◌<◌, ◌≤◌, Bool, true, false, not, true≢false, is_some, List, [], ◌∷◌, length, get_or, sym, refl, ap, ◌∙◌, subst, arith}
use Rattle.std.specs.Prelude.{Option, Some, None}
use mathlib.Core.Option.{some, some-injective}
use mathlib.Core.Logic.{dite}
use native.Mathlib.Decide.{ℕ_discrete}
use lib.ListN.{get_elem?}
use Rattle.atomic_table.specs.Seated.{TableId}
use Rattle.table_rule.specs.declared.view.View.{View}
use Rattle.table_rule.specs.Layout.{Has}
use Rattle.table_rule.specs.Views.{Held}
use Rattle.table_rule.proofs.Lists.{at_within}
use Rattle.demand_table.specs.Passes.{PassView}
use Rattle.demand_table.specs.Ties.{Ties}
use Rattle.demand_table.proofs.Tied.{same_some}
use Rattle.demand_table.proofs.Shown.{shown, seen_is}

-- the numbers of the first n workers are past the limit
abbrev pub ArePast : ℕ → ℕ → List (Option ℕ) → Type 0
ArePast limit n rows = (k x : ℕ) → k < n → get_elem? rows k ≡ some (Some x) → limit ≤ x

-- the first n workers have none
abbrev pub AreBare : ℕ → List (Option ℕ) → Type 0
AreBare n rows = (k x : ℕ) → k < n → get_elem? rows k ≡ some (Some x) → ⊥

pub past_none : (limit : ℕ) (rows : List (Option ℕ)) → ArePast limit 0 rows
past_none limit rows k x lt e = absurd (omega (arith, lt))

pub past_skip : (limit n : ℕ) (rows : List (Option ℕ)) → ArePast limit n rows → ((x : ℕ) → get_elem? rows n ≡ some (Some x) → ⊥) → ArePast limit (n + 1) rows
past_skip limit n rows h e k x lt is = dite (ℕ_discrete k n)
    (λ same. absurd (e x (subst (λ (z : ℕ). get_elem? rows z ≡ some (Some x)) same is)))
    (λ ne. h k x (omega (arith, lt, ne)) is)

pub past_more : (limit n y : ℕ) (rows : List (Option ℕ)) → ArePast limit n rows → get_elem? rows n ≡ some (Some y) → limit ≤ y → ArePast limit (n + 1) rows
past_more limit n y rows h e le k x lt is = dite (ℕ_discrete k n)
    (λ same. subst (λ (z : ℕ). limit ≤ z) (same_some y x (some-injective (Some y) (Some x) (sym e ∙ subst (λ (z : ℕ). get_elem? rows z ≡ some (Some x)) same is))) le)
    (λ ne. h k x (omega (arith, lt, ne)) is)

pub bare_none : (rows : List (Option ℕ)) → AreBare 0 rows
bare_none rows k x lt e = absurd (omega (arith, lt))

pub bare_more : (n : ℕ) (rows : List (Option ℕ)) → AreBare n rows → ((x : ℕ) → get_elem? rows n ≡ some (Some x) → ⊥) → AreBare (n + 1) rows
bare_more n rows h e k x lt is = dite (ℕ_discrete k n)
    (λ same. e x (subst (λ (z : ℕ). get_elem? rows z ≡ some (Some x)) same is))
    (λ ne. h k x (omega (arith, lt, ne)) is)

no_held : (held : List Held) → ((k x : ℕ) (ws : List ℕ) → Has held (k, (x, ws)) → ⊥) → held ≡ []
no_held [] h = refl
no_held (g ∷ gs) h = absurd (h g.0 g.1.0 g.1.1 (0, refl))

module _ (t : TableId) (v : View) (p : PassView) (found : List ℕ) (rows : List (Option ℕ)) (worker : ℕ) (e : shown t v ≡ p) (i : Ties t v found rows worker) where
  pub ready_at : (k x m : ℕ) → get_elem? rows k ≡ some (Some x) → x < m → m ≡ length found → (x < p.seen.limit) × ((ws : List ℕ) × Has p.seen.held (k, (x, ws)))
  ready_at k x m is lt em =
      let wide : length found ≡ v.limit = i.finds.wide in
      subst (λ (z : View). (x < z.limit) × ((ws : List ℕ) × Has z.held (k, (x, ws)))) (seen_is t v p e) (omega (arith, lt, wide, em), i.holds.own k x is)

  pub all_past : (n m : ℕ) → 64 ≤ n → m ≡ length found → ArePast m n rows → (k x : ℕ) (ws : List ℕ) → Has p.seen.held (k, (x, ws)) → p.seen.limit ≤ x
  all_past n m le em h k x ws has =
      let g : Has v.held (k, (x, ws)) = subst (λ (z : View). Has z.held (k, (x, ws))) (sym (seen_is t v p e)) has in
      let at = (i.holds.all k x ws g).0 in
      let lt : k < length rows = at_within rows k _ at in
      let wide : length rows ≡ 64 = i.holds.wide in
      let low : m ≤ x = h k x (omega (arith, lt, wide, le)) at in
      let same : length found ≡ v.limit = i.finds.wide in
      subst (λ (z : View). z.limit ≤ x) (seen_is t v p e) (omega (arith, low, same, em))

  pub holds_one : (k x : ℕ) → get_elem? rows k ≡ some (Some x) → (l : ℕ) × (y : ℕ) × (ws : List ℕ) × Has p.seen.held (l, (y, ws))
  holds_one k x is = let h = i.holds.own k x is in (k, x, h.0, subst (λ (z : View). Has z.held (k, (x, h.0))) (seen_is t v p e) h.1)

  pub holds_none : (n : ℕ) → 64 ≤ n → AreBare n rows → p.seen.held ≡ []
  holds_none n le h = subst (λ (z : View). z.held ≡ []) (seen_is t v p e) (no_held v.held (λ k x ws has.
      let at = (i.holds.all k x ws has).0 in
      let lt : k < length rows = at_within rows k _ at in
      let wide : length rows ≡ 64 = i.holds.wide in
      h k x (omega (arith, lt, wide, le)) at))

-- what the array has at a place
pub row_at : (rows : List (Option ℕ)) (k : ℕ) (o : Option ℕ) → k < length rows → get_or rows k None ≡ o → get_elem? rows k ≡ some o
row_at [] k o lt e = absurd (omega (arith, lt))
row_at (x ∷ xs) zero o lt e = ap some e
row_at (x ∷ xs) (suc k) o lt e = row_at xs k o (omega (arith, lt)) e

pub none_at : (rows : List (Option ℕ)) (k : ℕ) → k < length rows → ((x : ℕ) → get_or rows k None ≡ Some x → ⊥) → (x : ℕ) → get_elem? rows k ≡ some (Some x) → ⊥
none_at rows k lt h x e = h x (some-injective _ _ (sym (row_at rows k (get_or rows k None) lt refl) ∙ e))

is_some_at : (o : Option ℕ) → is_some o ≡ true → (x : ℕ) × (o ≡ Some x)
is_some_at (Some x) e = (x, refl)
is_some_at None e = absurd (true≢false (sym e))

pub some_at : (rows : List (Option ℕ)) (k : ℕ) (b : Bool) → k < length rows → b ≡ is_some (get_or rows k None) → b ≡ true → (x : ℕ) × (get_elem? rows k ≡ some (Some x))
some_at rows k b lt e t = let s = is_some_at (get_or rows k None) (sym e ∙ t) in (s.0, row_at rows k (Some s.0) lt s.1)

pub not_some_at : (rows : List (Option ℕ)) (k : ℕ) (b : Bool) → k < length rows → b ≡ is_some (get_or rows k None) → b ≡ false → (x : ℕ) → get_elem? rows k ≡ some (Some x) → ⊥
not_some_at rows k b lt e f x at = let o : get_or rows k None ≡ Some x = some-injective _ _ (sym (row_at rows k (get_or rows k None) lt refl) ∙ at) in true≢false (ap is_some (sym o) ∙ (sym e ∙ f))

is_none_at : (o : Option ℕ) → is_some o ≡ false → o ≡ None
is_none_at (Some x) e = absurd (true≢false e)
is_none_at None e = refl

pub none_here : (rows : List (Option ℕ)) (k : ℕ) → k < length rows → is_some (get_or rows k None) ≡ false → get_elem? rows k ≡ some None
none_here rows k lt e = row_at rows k None lt (is_none_at (get_or rows k None) e)

pub some_here : (rows : List (Option ℕ)) (k : ℕ) → k < length rows → is_some (get_or rows k None) ≡ true → (x : ℕ) × (get_elem? rows k ≡ some (Some x)) × (get_or rows k None ≡ Some x)
some_here rows k lt e = let s = is_some_at (get_or rows k None) e in (s.0, row_at rows k (Some s.0) lt s.1, s.1)

pub none_test : (rows : List (Option ℕ)) (k : ℕ) (b : Bool) → k < length rows → is_some (get_or rows k None) ≡ not b → b ≡ true → get_elem? rows k ≡ some None
none_test rows k b lt e t = none_here rows k lt (e ∙ ap not t)

pub some_test : (rows : List (Option ℕ)) (k : ℕ) (b : Bool) → k < length rows → is_some (get_or rows k None) ≡ not b → b ≡ false → (x : ℕ) × (get_elem? rows k ≡ some (Some x)) × (get_or rows k None ≡ Some x)
some_test rows k b lt e t = some_here rows k lt (e ∙ ap not t)
