-- Splitting and joining seats keeps the rule.
use Rattle.std.proofs.Common.{◌≡◌, ◌≢◌, ◌⊎◌, ℕ, suc, zero, ◌+◌, ◌<◌, ◌≤◌, min, inl, inr, ⊎_elim, List, [], ◌∷◌, ◌++◌, length, set, sym, refl, ap, ◌∙◌, subst, arith}
use Rattle.std.specs.Prelude.{Option}
use mathlib.Core.Option.{some, some-ne-none}
use mathlib.Core.Logic.{dite}
use native.Mathlib.Decide.{dec_le}
use lib.ListN.{get_elem?}
use Rattle.atomic_table.specs.Table.{State, Splits, Joins}
use Rattle.atomic_table.proofs.Lists.{at_set, set_else}
use Rattle.table_rule.specs.declared.view.View.{View}
use Rattle.table_rule.specs.Layout.{Has}
use Rattle.table_rule.specs.Views.{Held, tail_of, head_of, least_of, with_workers, keeping, giving, both_of, spent}
use Rattle.table_rule.specs.Rule.{Status, Workers, Opens, Makes, Claims, Keeps, Rule}
use Rattle.table_rule.proofs.Lists.{at_snoc, has_none, has_cons, has_first, has_left, has_right, has_either, in_either}
use Rattle.table_rule.proofs.Learning.{knows_more}

in_tail : (l : List ℕ) (i z : ℕ) → get_elem? (tail_of l) i ≡ some z → get_elem? l (suc i) ≡ some z
in_tail [] i z e = absurd (some-ne-none z (sym e))
in_tail (x ∷ xs) i z e = e

in_head : (l : List ℕ) (i z : ℕ) → get_elem? (head_of l) i ≡ some z → (i ≡ 0) × (get_elem? l 0 ≡ some z)
in_head [] i z e = absurd (some-ne-none z (sym e))
in_head (x ∷ xs) zero z e = (refl, e)
in_head (x ∷ xs) (suc i) z e = absurd (some-ne-none z (sym e))

pub min_left : (x y : ℕ) → x ≤ y → min x y ≡ x
min_left x y le = omega arith

pub min_right : (x y : ℕ) → y < x → min x y ≡ y
min_right x y lt = omega arith

pub least_is : (l : List ℕ) (k : ℕ) → Has l k → Has l (least_of l) × (least_of l ≤ k)
least_is [] k h = absurd (has_none k h)
least_is (x ∷ []) k h = ((0, refl), ⊎_elim (λ e. let e' : x ≡ k = e in omega arith) (λ g. absurd (has_none k g)) (has_cons [] x k h))
least_is (x ∷ y ∷ xs) k h =
    let m = least_of (y ∷ xs) in
    let rest = λ (n : ℕ) (g : Has (y ∷ xs) n). least_is (y ∷ xs) n g in
    let own = (rest y (0, refl)).0 in (
      dite (dec_le x m) (λ le. (0, ap some (sym (min_left x m le)))) (λ n. (suc own.0, own.1 ∙ ap some (sym (min_right x m (omega arith))))),
      ⊎_elim (λ e. let e' : x ≡ k = e in let z : min x m ≤ x = omega arith in omega arith) (λ g. let le : m ≤ k = (rest k g).1 in let z : min x m ≤ m = omega arith in omega arith) (has_cons (y ∷ xs) x k h),
    )

-- a part of a view that holds no row, made none and claimed none
part : (b : ℕ) (words : List ℕ) (rows : List Status) (v : View) (workers : List ℕ) → Keeps b words rows v → v.held ≡ [] → v.made ≡ [] → v.claims ≡ []
    → ((z : ℕ) → Has workers z → Has v.workers z) → ((i j k : ℕ) → get_elem? workers i ≡ some k → get_elem? workers j ≡ some k → i ≡ j) → Keeps b words rows (with_workers v workers)
part b words rows v workers s no_held no_made no_claims sub one = record {
  workers = record {
    bounded = λ k h. s.workers.bounded k (sub k h);
    once = one;
    least = λ k h. least_is workers k h;
    limit = λ k h. s.workers.limit k (sub k h);
  };
  opens = record {
    mine = λ x k e h. let m = s.opens.mine x k e (sub k h) in absurd (has_none (k, (x, m.0)) (subst (λ (l : List Held). Has l (k, (x, m.0))) no_held m.1));
    shown = λ x k ws h. absurd (has_none (k, (x, ws)) h);
  };
  knows = s.knows;
  makes = record {
    makes = λ x m o h. absurd (has_none (x, (m, o)) h);
    made = λ x p m o e is h. absurd (has_none (x, (m, o)) (subst (λ (l : List (ℕ × (ℕ × Option ℕ))). Has l (x, (m, o))) no_made (s.makes.made x p m o e is (sub m h))));
  };
  claims = record {
    claims = λ x k h. absurd (has_none (x, k) h);
    claimed = λ x k lt e h. absurd (has_none (x, k) (subst (λ (l : List (ℕ × ℕ)). Has l (x, k)) no_claims (s.claims.claimed x k lt e (sub k h))));
    once = λ i j x k l e f. absurd (some-ne-none (x, k) (sym e));
  };
}

module _ (b : ℕ) (words : List ℕ) (views : List View) (r : Rule b words views) (id : ℕ) (v : View) (at : get_elem? views id ≡ some v) (no_held : v.held ≡ []) (no_made : v.made ≡ []) (no_claims : v.claims ≡ []) where
  abbrev left : List View
  left = set views id (keeping v)

  s : Keeps b words r.rows v
  s = r.each id v at

  keeping_in : (z : ℕ) → Has (tail_of v.workers) z → Has v.workers z
  keeping_in z h = (suc h.0, in_tail v.workers h.0 z h.1)

  giving_in : (z : ℕ) → Has (head_of v.workers) z → Has v.workers z
  giving_in z h = (0, (in_head v.workers h.0 z h.1).1)

  not_both : (z : ℕ) → Has (tail_of v.workers) z → Has (head_of v.workers) z → ⊥
  not_both z h g = let e : suc h.0 ≡ 0 = s.workers.once (suc h.0) 0 z (in_tail v.workers h.0 z h.1) (in_head v.workers g.0 z g.1).1 in omega (arith, e)

  keeps_tail : Keeps b words r.rows (keeping v)
  keeps_tail = part b words r.rows v (tail_of v.workers) s no_held no_made no_claims keeping_in (λ i j k e f. let x : suc i ≡ suc j = s.workers.once (suc i) (suc j) k (in_tail v.workers i k e) (in_tail v.workers j k f) in omega arith)

  keeps_head : Keeps b words r.rows (giving v)
  keeps_head = part b words r.rows v (head_of v.workers) s no_held no_made no_claims giving_in (λ i j k e f. (in_head v.workers i k e).0 ∙ sym (in_head v.workers j k f).0)

  -- where a view comes from
  from_old : (j : ℕ) (u : View) → get_elem? left j ≡ some u → (u' : View) × (get_elem? views j ≡ some u') × ((z : ℕ) → Has u.workers z → Has u'.workers z)
  from_old j u e = ⊎_elim
      (λ h. (v, subst (λ (i : ℕ). get_elem? views i ≡ some v) (sym h.0) at, λ z g. keeping_in z (subst (λ (t : View). Has t.workers z) (sym h.1) g)))
      (λ h. (u, h.1, λ z g. g)) (at_set views id j (keeping v) u e)

  new_old : (j : ℕ) (u : View) (z : ℕ) → get_elem? left j ≡ some u → Has u.workers z → Has (head_of v.workers) z → ⊥
  new_old j u z e hu hg = ⊎_elim
      (λ h. not_both z (subst (λ (t : View). Has t.workers z) (sym h.1) hu) hg)
      (λ h. h.0 (r.apart j id u v z h.1 at hu (giving_in z hg))) (at_set views id j (keeping v) u e)

  pub split_kept : Rule b words (left ++ giving v ∷ [])
  split_kept = record {
    rows = r.rows;
    order = r.order;
    numbers = r.numbers;
    chains = r.chains;
    origins = r.origins;
    claimed = r.claimed;
    each = λ j u e. ⊎_elim
        (λ h. ⊎_elim (λ g. subst (Keeps b words r.rows) g.1 keeps_tail) (λ g. r.each j u g.1) (at_set views id j (keeping v) u h))
        (λ h. subst (Keeps b words r.rows) h.1 keeps_head)
        (at_snoc left (giving v) u j e);
    apart = λ i j t u z et eu ht hu. ⊎_elim
        (λ hi. ⊎_elim
        (λ hj. let p = from_old i t hi in let q = from_old j u hj in r.apart i j p.0 q.0 z p.1 q.1 (p.2 z ht) (q.2 z hu))
        (λ hj. absurd (new_old i t z hi ht (subst (λ (m : View). Has m.workers z) (sym hj.1) hu)))
        (at_snoc left (giving v) u j eu))
        (λ hi. ⊎_elim
        (λ hj. absurd (new_old j u z hj hu (subst (λ (m : View). Has m.workers z) (sym hi.1) ht)))
        (λ hj. hi.0 ∙ sym hj.0)
        (at_snoc left (giving v) u j eu))
        (at_snoc left (giving v) t i et);
  }

pub splits : (b id : ℕ) (v : View) → v.held ≡ [] → v.made ≡ [] → v.claims ≡ [] → Splits (λ (s : State (Unit {0}) View). Rule b s.words s.views) id v (keeping v) (giving v)
splits b id v no_held no_made no_claims s r at = split_kept b s.words s.views r id v at no_held no_made no_claims

module _ (b : ℕ) (words : List ℕ) (views : List View) (r : Rule b words views) (id other : ℕ) (v w : View) (at : get_elem? views id ≡ some v) (ne : other ≢ id) (at' : get_elem? views other ≡ some w) (live : 0 < length v.workers) (live' : 0 < length w.workers) where
  abbrev joined : List View
  joined = set (set views id (both_of v w)) other spent

  sv : Keeps b words r.rows v
  sv = r.each id v at

  sw : Keeps b words r.rows w
  sw = r.each other w at'

  apart_vw : (z : ℕ) → Has v.workers z → Has w.workers z → ⊥
  apart_vw z h g = ne (r.apart other id w v z at' at g h)

  one_size : v.limit ≡ w.limit
  one_size = let f = has_first v.workers live in let g = has_first w.workers live' in sv.workers.limit f.0 f.1 ∙ sym (sw.workers.limit g.0 g.1)

  least_left : Has v.workers v.lead
  least_left = let f = has_first v.workers live in (sv.workers.least f.0 f.1).0

  least_right : Has w.workers w.lead
  least_right = let f = has_first w.workers live' in (sw.workers.least f.0 f.1).0

  workers : Workers b (v.workers ++ w.workers) (min v.lead w.lead) v.limit
  workers = record {
    bounded = λ k h. ⊎_elim (sv.workers.bounded k) (sw.workers.bounded k) (has_either v.workers w.workers k h);
    once = λ i j k e f. ⊎_elim
        (λ h. ⊎_elim (λ g. sv.workers.once i j k h.1 g.1) (λ g. absurd (apart_vw k (i, h.1) (g.0, g.2))) (in_either v.workers w.workers j k f))
        (λ h. ⊎_elim (λ g. absurd (apart_vw k (j, g.1) (h.0, h.2))) (λ g. h.1 ∙ (ap (λ (m : ℕ). length v.workers + m) (sw.workers.once h.0 g.0 k h.2 g.2) ∙ sym g.1)) (in_either v.workers w.workers j k f))
        (in_either v.workers w.workers i k e);
    least = λ k h. (
      dite (dec_le v.lead w.lead)
          (λ le. subst (Has (v.workers ++ w.workers)) (sym (min_left v.lead w.lead le)) (has_left v.workers w.workers v.lead least_left))
          (λ n. subst (Has (v.workers ++ w.workers)) (sym (min_right v.lead w.lead (omega arith))) (has_right v.workers w.workers w.lead least_right)),
      ⊎_elim
          (λ g. let le : v.lead ≤ k = (sv.workers.least k g).1 in let a : ℕ = v.lead in let c : ℕ = w.lead in let z : min a c ≤ a = omega arith in omega arith)
          (λ g. let le : w.lead ≤ k = (sw.workers.least k g).1 in let a : ℕ = v.lead in let c : ℕ = w.lead in let z : min a c ≤ c = omega arith in omega arith)
          (has_either v.workers w.workers k h),
    );
    limit = λ k h. ⊎_elim (sv.workers.limit k) (λ g. one_size ∙ sw.workers.limit k g) (has_either v.workers w.workers k h);
  }

  opens : Opens b words r.rows (v.workers ++ w.workers) (v.held ++ w.held)
  opens = record {
    mine = λ x k e h. ⊎_elim (λ g. let m = sv.opens.mine x k e g in (m.0, has_left v.held w.held (k, (x, m.0)) m.1)) (λ g. let m = sw.opens.mine x k e g in (m.0, has_right v.held w.held (k, (x, m.0)) m.1)) (has_either v.workers w.workers k h);
    shown = λ x k ws h. ⊎_elim (λ g. let m = sv.opens.shown x k ws g in (m.0, has_left v.workers w.workers k m.1, m.2)) (λ g. let m = sw.opens.shown x k ws g in (m.0, has_right v.workers w.workers k m.1, m.2)) (has_either v.held w.held (k, (x, ws)) h);
  }

  makes : Makes words r.rows (v.workers ++ w.workers) (v.known ++ w.known) (v.made ++ w.made)
  makes = record {
    makes = λ x m o h. ⊎_elim
        (λ g. let t = sv.makes.makes x m o g in (t.0, has_left v.workers w.workers m t.1, (t.2.0, t.2.1, has_left v.known w.known (t.2.0, x + 1) t.2.2)))
        (λ g. let t = sw.makes.makes x m o g in (t.0, has_right v.workers w.workers m t.1, (t.2.0, t.2.1, has_right v.known w.known (t.2.0, x + 1) t.2.2)))
        (has_either v.made w.made (x, (m, o)) h);
    made = λ x p m o e is h. ⊎_elim (λ g. has_left v.made w.made (x, (m, o)) (sv.makes.made x p m o e is g)) (λ g. has_right v.made w.made (x, (m, o)) (sw.makes.made x p m o e is g)) (has_either v.workers w.workers m h);
  }

  -- no row is claimed by both
  not_twice : (x k l : ℕ) → Has v.claims (x, k) → Has w.claims (x, l) → ⊥
  not_twice x k l h g = let a = sv.claims.claims x k h in let c = sw.claims.claims x l g in
      let e : k + 1 ≡ l + 1 = sym a.1 ∙ c.1 in let kl : k ≡ l = omega arith in
      apart_vw l (subst (λ (z : ℕ). Has v.workers z) kl a.2) c.2

  claims : Claims b words (v.workers ++ w.workers) (v.claims ++ w.claims)
  claims = record {
    claims = λ x k h. ⊎_elim (λ g. let t = sv.claims.claims x k g in (t.0, t.1, has_left v.workers w.workers k t.2)) (λ g. let t = sw.claims.claims x k g in (t.0, t.1, has_right v.workers w.workers k t.2)) (has_either v.claims w.claims (x, k) h);
    claimed = λ x k lt e h. ⊎_elim (λ g. has_left v.claims w.claims (x, k) (sv.claims.claimed x k lt e g)) (λ g. has_right v.claims w.claims (x, k) (sw.claims.claimed x k lt e g)) (has_either v.workers w.workers k h);
    once = λ i j x k l e f. ⊎_elim
        (λ h. ⊎_elim (λ g. sv.claims.once i j x k l h.1 g.1) (λ g. absurd (not_twice x k l (i, h.1) (g.0, g.2))) (in_either v.claims w.claims j (x, l) f))
        (λ h. ⊎_elim (λ g. absurd (not_twice x l k (j, g.1) (h.0, h.2))) (λ g. h.1 ∙ (ap (λ (m : ℕ). length v.claims + m) (sw.claims.once h.0 g.0 x k l h.2 g.2) ∙ sym g.1)) (in_either v.claims w.claims j (x, l) f))
        (in_either v.claims w.claims i (x, k) e);
  }

  keeps_both : Keeps b words r.rows (both_of v w)
  keeps_both = record { workers = workers; opens = opens; knows = knows_more b words r.rows v.known w.known sv.knows sw.knows; makes = makes; claims = claims }

  keeps_spent : Keeps b words r.rows spent
  keeps_spent = record {
    workers = record { bounded = λ k h. absurd (has_none k h); once = λ i j k e f. absurd (some-ne-none k (sym e)); least = λ k h. absurd (has_none k h); limit = λ k h. absurd (has_none k h) };
    opens = record { mine = λ x k e h. absurd (has_none k h); shown = λ x k ws h. absurd (has_none (k, (x, ws)) h) };
    knows = λ q n h. absurd (has_none (q, n) h);
    makes = record { makes = λ x m o h. absurd (has_none (x, (m, o)) h); made = λ x p m o e is h. absurd (has_none m h) };
    claims = record { claims = λ x k h. absurd (has_none (x, k) h); claimed = λ x k lt e h. absurd (has_none k h); once = λ i j x k l e f. absurd (some-ne-none (x, k) (sym e)) };
  }

  -- the seat that had a worker before
  owner : (i : ℕ) (t : View) (z : ℕ) → get_elem? joined i ≡ some t → Has t.workers z
      → (j : ℕ) × (u : View) × (get_elem? views j ≡ some u) × Has u.workers z × (((i ≡ j) × (j ≢ other)) ⊎ ((i ≡ id) × (j ≡ other)))
  owner i t z e h = ⊎_elim
      (λ g. absurd (has_none z (subst (λ (m : View). Has m.workers z) (sym g.1) h)))
      (λ g. ⊎_elim
      (λ k. ⊎_elim
      (λ in_v. (id, v, at, in_v, inl (k.0, λ c. ne (sym c))))
      (λ in_w. (other, w, at', in_w, inr (k.0, refl)))
      (has_either v.workers w.workers z (subst (λ (m : View). Has m.workers z) (sym k.1) h)))
      (λ k. (i, t, k.1, h, inl (refl, g.0)))
      (at_set views id i (both_of v w) t g.1))
      (at_set (set views id (both_of v w)) other i spent t e)

  one_owner : (i j p q : ℕ) → p ≡ q → (((i ≡ p) × (p ≢ other)) ⊎ ((i ≡ id) × (p ≡ other))) → (((j ≡ q) × (q ≢ other)) ⊎ ((j ≡ id) × (q ≡ other))) → i ≡ j
  one_owner i j p q e (inl h) (inl g) = h.0 ∙ (e ∙ sym g.0)
  one_owner i j p q e (inl h) (inr g) = absurd (h.1 (e ∙ g.1))
  one_owner i j p q e (inr h) (inl g) = absurd (g.1 (sym e ∙ h.1))
  one_owner i j p q e (inr h) (inr g) = h.0 ∙ sym g.0

  pub join_kept : Rule b words joined
  join_kept = record {
    rows = r.rows;
    order = r.order;
    numbers = r.numbers;
    chains = r.chains;
    origins = r.origins;
    claimed = r.claimed;
    each = λ j u e. ⊎_elim
        (λ g. subst (Keeps b words r.rows) g.1 keeps_spent)
        (λ g. ⊎_elim (λ k. subst (Keeps b words r.rows) k.1 keeps_both) (λ k. r.each j u k.1) (at_set views id j (both_of v w) u g.1))
        (at_set (set views id (both_of v w)) other j spent u e);
    apart = λ i j t u z et eu ht hu. let p = owner i t z et ht in let q = owner j u z eu hu in
        one_owner i j p.0 q.0 (r.apart p.0 q.0 p.1 q.1 z p.2 q.2 p.3 q.3) p.4 q.4;
  }

pub joins : (b id other : ℕ) (v w : View) → 0 < length v.workers → 0 < length w.workers → Joins (λ (s : State (Unit {0}) View). Rule b s.words s.views) id v other w (both_of v w) spent
joins b id other v w live live' s r at ne at' = join_kept b s.words s.views r id other v w at ne (sym (set_else s.views id other (both_of v w) ne) ∙ at') live live'
