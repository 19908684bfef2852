-- What stays true where slots, published rows and claims only become more.
use Rattle.std.proofs.Common.{◌≡◌, ◌≢◌, ℕ, ◌+◌, ◌*◌, ◌%◌, ◌/◌, ◌<◌, ◌≤◌, List, get_or, set, sym, refl, ap, ◌∙◌, subst, inl, inr, ⊎_elim, arith}
use Rattle.std.specs.Prelude.{Option, Some, None}
use mathlib.Core.Option.{some, some-injective}
use lib.ListN.{get_elem?}
use Rattle.atomic_table.proofs.Lists.{at_set}
use Rattle.table_rule.specs.declared.view.View.{View}
use Rattle.table_rule.specs.Layout.{Has, slots, word_of, content, generation, named, probe}
use Rattle.table_rule.specs.Rule.{Status, open_with, at_slot, IsOpen, IsPublished, IsFixed, Knows, IsChained, Chains, IsUnder, IsFrom, Origins, Makes, Claimed, Claims, AreApart}
use Rattle.table_rule.proofs.Rows.{content_is}

is_open : Status → ℕ
is_open (open_with k) = 1
is_open (at_slot p) = 0

which : Status → ℕ
which (open_with k) = k
which (at_slot p) = p

pub open_slot : (k p : ℕ) → open_with k ≡ at_slot p → ⊥
unfolding is_open
open_slot k p e = let z : 1 ≡ 0 = ap is_open e in omega (arith, z)

pub same_slot : (p q : ℕ) → at_slot p ≡ at_slot q → p ≡ q
unfolding which
same_slot p q e = ap which e

pub same_open : (p q : ℕ) → open_with p ≡ open_with q → p ≡ q
unfolding which
same_open p q e = ap which e

module _ (rows : List Status) (x : ℕ) where
  pub open_published : (k p : ℕ) → IsOpen rows x k → IsPublished rows x p → ⊥
  open_published k p e f = open_slot k p (some-injective (open_with k) (at_slot p) (sym e ∙ f))

  pub one_place : (p q : ℕ) → IsPublished rows x p → IsPublished rows x q → p ≡ q
  one_place p q e f = same_slot p q (some-injective (at_slot p) (at_slot q) (sym e ∙ f))

  pub one_worker : (k l : ℕ) → IsOpen rows x k → IsOpen rows x l → k ≡ l
  one_worker k l e f = same_open k l (some-injective (open_with k) (open_with l) (sym e ∙ f))

pub record Grows (b : ℕ) (words words' : List ℕ) (rows rows' : List Status) : Type 0 where
  pub slot : (p n : ℕ) → 0 < p → p ≤ slots → get_or words p 0 ≡ n → n ≢ 0 → get_or words' p 0 ≡ n
  pub body : (x p j : ℕ) → IsPublished rows x p → j < 36 → get_or words' (word_of x j) 0 ≡ get_or words (word_of x j) 0
  pub claim : (x n : ℕ) → x < 65536 + b → get_or words (word_of x 36) 0 ≡ n → n ≢ 0 → get_or words' (word_of x 36) 0 ≡ n
  pub to : (x p : ℕ) → IsPublished rows x p → IsPublished rows' x p

abbrev pub Back : List Status → List Status → Type 0
Back rows rows' = (x p : ℕ) → IsPublished rows' x p → IsPublished rows x p

abbrev pub SameClaims : ℕ → List ℕ → List ℕ → Type 0
SameClaims b words words' = (x : ℕ) → x < 65536 + b → get_or words' (word_of x 36) 0 ≡ get_or words (word_of x 36) 0

pub not_zero : (k : ℕ) → k + 1 ≢ 0
not_zero k e = omega arith

module _ (b : ℕ) (words words' : List ℕ) (rows rows' : List Status) (g : Grows b words words' rows rows') where
  pub knows_grow : (known : List (ℕ × ℕ)) → Knows b words rows known → Knows b words' rows' known
  knows_grow known s q n h = let t = s q n h in keep t.0 t.1
    where
      keep : get_or words q 0 ≡ n → IsFixed b rows q n → (get_or words' q 0 ≡ n) × IsFixed b rows' q n
      keep e (inl f) = (g.slot q n f.0 f.1 e f.2, inl f)
      keep e (inr (inl f)) = (subst (λ (z : ℕ). get_or words' z 0 ≡ get_or words z 0) (sym f.3) (g.body f.0 f.2 f.1 f.5 f.4) ∙ e, inr (inl (f.0, f.1, f.2, f.3, f.4, g.to f.0 f.2 f.5)))
      keep e (inr (inr f)) = (ap (λ (z : ℕ). get_or words' z 0) f.1 ∙ g.claim f.0 n f.2 (ap (λ (z : ℕ). get_or words z 0) (sym f.1) ∙ e) f.3, inr (inr f))

  pub generation_grow : (x p : ℕ) → IsPublished rows x p → generation words' x ≡ generation words x
  generation_grow x p e = ap (λ (n : ℕ). n / 64) (g.body x p 0 e (omega arith))

  pub content_grow : Chains words rows → (x p : ℕ) → IsPublished rows x p → content words' x ≡ content words x
  content_grow c x p e = content_is words' words (word_of x 0) (word_of x 0) (c.short x p e) (λ j lt.
      let q : word_of x 0 + j ≡ word_of x j = omega arith in
      subst (λ (z : ℕ). get_or words' z 0 ≡ get_or words z 0) (sym q) (g.body x p j e lt))

  -- what stood in a chain still does
  pub chained_grow : Chains words rows → (row : List ℕ) (p : ℕ) → IsChained words rows row p → IsChained words' rows' row p
  chained_grow c row p h = (h.0, h.1, λ j lt. let o = h.2 j lt in (o.0, g.to o.0 (probe row j) o.1, λ e. o.2 (sym (content_grow c o.0 (probe row j) o.1) ∙ e)))

  pub chains_grow : Back rows rows' → Chains words rows → Chains words' rows'
  chains_grow back c = record {
    short = λ x p e. let was = back x p e in subst (λ (n : ℕ). n % 64 ≤ 34) (sym (g.body x p 0 was (omega arith))) (c.short x p was);
    chain = λ x p e. let was = back x p e in subst (λ (row : List ℕ). IsChained words' rows' row p) (sym (content_grow c x p was)) (chained_grow c (content words x) p (c.chain x p was));
  }

  pub under_grow : Claimed b words rows → (n m : ℕ) (parent : Option ℕ) → IsUnder b words n m parent → IsUnder b words' n m parent
  under_grow c n m None h = h
  under_grow c n m (Some y) h = let q = (c y m h.0 h.1).1 in (h.0, g.claim y (m + 1) h.0 h.1 (not_zero m), h.2 ∙ ap (λ (z : ℕ). z + 1) (sym (generation_grow y q.0 q.1)))

  pub from_grow : Claimed b words rows → (x p m : ℕ) (parent : Option ℕ) → IsPublished rows x p → IsFrom b words x m parent → IsFrom b words' x m parent
  from_grow c x p m parent e f = record {
    word = g.body x p 35 e (omega arith) ∙ f.word;
    maker = f.maker;
    under = subst (λ (n : ℕ). IsUnder b words' n m parent) (sym (generation_grow x p e)) (under_grow c (generation words x) m parent f.under);
  }

  pub origins_grow : Back rows rows' → Claimed b words rows → (order : List ℕ) → Origins b words rows order → Origins b words' rows' order
  origins_grow back c order o = record {
    listed = λ x p e. o.listed x p (back x p e);
    ordered = λ i x e. let t = o.ordered i x e in (t.0, g.to x t.0 t.1, subst (λ (n : ℕ). n ≤ i) (sym (generation_grow x t.0 t.1)) t.2);
    single = o.single;
    origin = λ x p e. let was = back x p e in let t = o.origin x p was in (t.0, t.1, from_grow c x p t.0 t.1 was t.2);
  }

  -- what was made still is
  pub makes_forth : (workers : List ℕ) (known : List (ℕ × ℕ)) (books : List (ℕ × (ℕ × Option ℕ))) → Makes words rows workers known books → (x m : ℕ) (parent : Option ℕ) → Has books (x, (m, parent))
      → (get_or words' (word_of x 35) 0 ≡ m + 64 * named parent) × Has workers m × ((p : ℕ) × IsPublished rows' x p × Has known (p, x + 1))
  makes_forth workers known books s x m parent h = let t = s.makes x m parent h in (g.body x t.2.0 35 t.2.1 (omega arith) ∙ t.0, t.1, (t.2.0, g.to x t.2.0 t.2.1, t.2.2))

  pub makes_grow : Back rows rows' → (workers : List ℕ) (known : List (ℕ × ℕ)) (books : List (ℕ × (ℕ × Option ℕ))) → Makes words rows workers known books → Makes words' rows' workers known books
  makes_grow back workers known books s = record {
    makes = makes_forth workers known books s;
    made = λ x p m parent e is k. let was = back x p e in s.made x p m parent was (sym (g.body x p 35 was (omega arith)) ∙ is) k;
  }

  pub claimed_grow : SameClaims b words words' → Claimed b words rows → Claimed b words' rows'
  claimed_grow same c x k lt e = let t = c x k lt (sym (same x lt) ∙ e) in (t.0, (t.1.0, g.to x t.1.0 t.1.1))

  -- what was claimed still is
  pub claims_forth : (workers : List ℕ) (taken : List (ℕ × ℕ)) → Claims b words workers taken → (x k : ℕ) → Has taken (x, k) → (x < 65536 + b) × (get_or words' (word_of x 36) 0 ≡ k + 1) × Has workers k
  claims_forth workers taken s x k h = let t = s.claims x k h in (t.0, g.claim x (k + 1) t.0 t.1 (not_zero k), t.2)

  pub claims_grow : SameClaims b words words' → (workers : List ℕ) (taken : List (ℕ × ℕ)) → Claims b words workers taken → Claims b words' workers taken
  claims_grow same workers taken s = record {
    claims = claims_forth workers taken s;
    claimed = λ x k lt e h. s.claimed x k lt (sym (same x lt) ∙ e) h;
    once = s.once;
  }

-- a view that knows more
pub makes_more : (words : List ℕ) (rows : List Status) (workers : List ℕ) (known known' : List (ℕ × ℕ)) (books : List (ℕ × (ℕ × Option ℕ))) → ((q n : ℕ) → Has known (q, n) → Has known' (q, n))
    → Makes words rows workers known books → Makes words rows workers known' books
makes_more words rows workers known known' books more s = record {
  makes = λ x m parent h. let t = s.makes x m parent h in (t.0, t.1, (t.2.0, t.2.1, more t.2.0 (x + 1) t.2.2));
  made = s.made;
}

module _ (views : List View) (id : ℕ) (v w : View) (at : get_elem? views id ≡ some v) where
  -- what holds of each view holds after the view at id has changed
  pub each_set : (P Q : View → Type 0) → ((j : ℕ) (u : View) → get_elem? views j ≡ some u → P u) → Q w → ((j : ℕ) (u : View) → j ≢ id → get_elem? views j ≡ some u → P u → Q u)
      → (j : ℕ) (u : View) → get_elem? (set views id w) j ≡ some u → Q u
  each_set P Q all new others j u e = ⊎_elim (λ h. subst Q h.1 new) (λ h. others j u h.0 h.1 (all j u h.1)) (at_set views id j w u e)

  had : w.workers ≡ v.workers → (j : ℕ) (u : View) → get_elem? (set views id w) j ≡ some u → (u' : View) × (get_elem? views j ≡ some u') × (u'.workers ≡ u.workers)
  had is j u e = ⊎_elim (λ h. (v, subst (λ (i : ℕ). get_elem? views i ≡ some v) (sym h.0) at, sym is ∙ ap (λ (z : View). z.workers) h.1)) (λ h. (u, h.1, refl)) (at_set views id j w u e)

  pub apart_set : w.workers ≡ v.workers → AreApart views → AreApart (set views id w)
  apart_set is one i j t u k et eu ht hu = let p = had is i t et in let q = had is j u eu in
      one i j p.0 q.0 k p.1 q.1 (subst (λ (l : List ℕ). Has l k) (sym p.2) ht) (subst (λ (l : List ℕ). Has l k) (sym q.2) hu)
