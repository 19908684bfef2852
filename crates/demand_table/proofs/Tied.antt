-- What a pass keeps beside its seat still fits after one more step of the seat.
use Rattle.std.proofs.Common.{◌≡◌, ◌≢◌, ◌⊎◌, ℕ, ◌+◌, ◌-◌, ◌<◌, ◌≤◌, List, [], ◌∷◌, ◌++◌, length, map, replicate, get_or, set, sym, refl, ap, ◌∙◌, subst, inl, inr, ⊎_elim, arith, length-set, get_or-set_same, get_or-set_other}
use Rattle.std.specs.Prelude.{Option, Some, None}
use Rattle.std.proofs.lemmas.List.{length-replicate}
use mathlib.Core.Option.{some, some-injective}
use mathlib.Core.Logic.{dite}
use native.Mathlib.Decide.{ℕ_discrete}
use lib.ListN.{get_elem?}
use Rattle.atomic_table.specs.Seated.{TableId}
use Rattle.atomic_table.proofs.Lists.{at_set, set_here, set_else}
use Rattle.table_rule.specs.declared.view.View.{View}
use Rattle.table_rule.specs.Layout.{Has, word_of}
use Rattle.table_rule.specs.Views.{Held, opened, writes, knows, learns, saw_empty, put, pairs_of, published, takes}
use Rattle.table_rule.specs.Tells.{KnowsSlot}
use Rattle.table_rule.proofs.Lists.{has_none, has_only, has_cons, has_left, has_right, has_either, has_map, has_mapped}
use Rattle.table_rule.proofs.Rows.{without_kept, without_was, put_here, put_other, pairs_of_was}
use Rattle.demand_table.specs.Ties.{Finds, Works, Ties}

-- two options that hold numbers are one where the numbers are
held_number : ℕ → Option ℕ → ℕ
held_number d None = d
held_number d (Some x) = x

pub same_some : (x y : ℕ) → Some x ≡ Some y → x ≡ y
unfolding held_number
same_some x y e = ap (held_number 0) e

pub some_not_none : (x : ℕ) → Some x ≡ None → ⊥
unfolding held_number
some_not_none x e = let a : x ≡ 0 = ap (held_number 0) e in let b : x ≡ 1 = ap (held_number 1) e in omega (arith, a, b)

-- more words are known, one of a slot that names the row t, and none of another slot
module _ (limit : ℕ) (known more : List (ℕ × ℕ)) (found : List ℕ) (f : Finds limit known found) where
  pub finds_with : (p t : ℕ) → t < limit → 0 < p → p ≤ 131072 → Has more (p, t + 1)
      → ((q n : ℕ) → Has more (q, n) → (131072 < q) ⊎ ((q ≡ p) × (n ≡ t + 1))) → Finds limit (more ++ known) (set found t p)
  finds_with p t lt lo hi here only =
      let wide : length found ≡ limit = f.wide in
      let in_ : t < length found = omega arith in
      record {
        wide = length-set found t p ∙ f.wide;
        slot = λ y ne. dite (ℕ_discrete y t)
            (λ e.
            let z : get_or (set found t p) y 0 ≡ p = ap (λ (m : ℕ). get_or (set found t p) m 0) e ∙ get_or-set_same found t p 0 in_ in
            (subst (λ (m : ℕ). m ≤ 131072) (sym z) hi, has_left more known _ (subst (λ (w : ℕ × ℕ). Has more (w.0, w.1 + 1)) (λ i. (sym z i, sym e i)) here)))
            (λ no_.
            let z : get_or (set found t p) y 0 ≡ get_or found y 0 = get_or-set_other found t y p 0 no_ in
            let o = f.slot y (λ g. ne (z ∙ g)) in
            (subst (λ (m : ℕ). m ≤ 131072) (sym z) o.0, has_right more known _ (subst (λ (m : ℕ). Has known (m, y + 1)) (sym z) o.1)));
        all = λ q y qlo qhi h. dite (ℕ_discrete y t)
            (λ e.
            let z : get_or (set found t p) y 0 ≡ p = ap (λ (m : ℕ). get_or (set found t p) m 0) e ∙ get_or-set_same found t p 0 in_ in
            λ g. let bad : p ≡ 0 = sym z ∙ g in omega (arith, bad, lo))
            (λ no_.
            let z : get_or (set found t p) y 0 ≡ get_or found y 0 = get_or-set_other found t y p 0 no_ in
            ⊎_elim
            (λ new. ⊎_elim (λ far. absurd (omega (arith, far, qhi))) (λ same. let e : y + 1 ≡ t + 1 = same.1 in absurd (no_ (omega (arith, e)))) (only q (y + 1) new))
            (λ old. λ g. f.all q y qlo qhi old (sym z ∙ g))
            (has_either more known (q, y + 1) h));
      }

  pub finds_far : ((q n : ℕ) → Has more (q, n) → 131072 < q) → Finds limit (more ++ known) found
  finds_far far = record {
    wide = f.wide;
    slot = λ y ne. let o = f.slot y ne in (o.0, has_right more known _ o.1);
    all = λ q y qlo qhi h. ⊎_elim
        (λ new. let bad : 131072 < q = far q (y + 1) new in absurd (omega (arith, bad, qhi)))
        (λ old. f.all q y qlo qhi old)
        (has_either more known (q, y + 1) h);
  }

module _ (table : TableId) (v : View) (found : List ℕ) (open_rows : List (Option ℕ)) (worker : ℕ) (i : Ties table v found open_rows worker) where
  works_more : (more : List (ℕ × ℕ)) → Works (learns v more) worker
  works_more more = record {
    lead = i.works.lead;
    own = i.works.own;
    few = i.works.few;
    claims = λ x k h. let c = i.works.claims x k h in ((c.0.0, c.0.1, c.0.2, has_right more v.known _ c.0.3), c.1);
  }

  -- a slot names a row
  pub ties_named : (w : View) (p n : ℕ) → w ≡ knows v p n → n ≢ 0 → n ≤ v.limit → 0 < p → p ≤ 131072 → Ties table w (set found (n - 1) p) open_rows worker
  ties_named w p n is ne le lo hi =
      let up : n - 1 + 1 ≡ n = omega (arith, ne) in
      subst (λ (u : View). Ties table u (set found (n - 1) p) open_rows worker) (sym is) record {
        sizes = i.sizes;
        finds = finds_with v.limit v.known ((p, n) ∷ []) found i.finds p (n - 1) (omega (arith, ne, le)) lo hi (subst (λ (m : ℕ). Has {A = ℕ × ℕ} ((p, n) ∷ []) (p, m)) (sym up) (0, refl))
            (λ q m h. let e = has_only (p, n) (q, m) h in inr (ap (λ (z : ℕ × ℕ). z.0) (sym e), ap (λ (z : ℕ × ℕ). z.1) (sym e) ∙ sym up));
        holds = i.holds;
        works = works_more ((p, n) ∷ []);
      }

  -- a word that is no slot is read
  pub ties_read : (w : View) (q n : ℕ) → w ≡ knows v q n → 131072 < q → Ties table w found open_rows worker
  ties_read w q n is far = subst (λ (u : View). Ties table u found open_rows worker) (sym is) record {
    sizes = i.sizes;
    finds = finds_far v.limit v.known ((q, n) ∷ []) found i.finds (λ r m h. let e : q ≡ r = ap (λ (z : ℕ × ℕ). z.0) (has_only (q, n) (r, m) h) in omega (arith, far, e));
    holds = i.holds;
    works = works_more ((q, n) ∷ []);
  }

  -- a slot is empty
  pub ties_empty : (w : View) (p : ℕ) → w ≡ saw_empty v p → Ties table w found open_rows worker
  ties_empty w p is = subst (λ (u : View). Ties table u found open_rows worker) (sym is) record {
    sizes = i.sizes;
    finds = i.finds;
    holds = i.holds;
    works = record { lead = i.works.lead; own = i.works.own; few = i.works.few; claims = i.works.claims };
  }

  -- a published row is claimed for one of the workers
  pub ties_takes : (w : View) (x k : ℕ) → w ≡ takes v x k → KnowsSlot v x → Has v.workers k → Ties table w found open_rows worker
  ties_takes w x k is known mine = subst (λ (u : View). Ties table u found open_rows worker) (sym is) record {
    sizes = i.sizes;
    finds = i.finds;
    holds = i.holds;
    works = record {
      lead = i.works.lead;
      own = i.works.own;
      few = i.works.few;
      claims = λ y l h. ⊎_elim
          (λ e. (subst (λ (z : ℕ). KnowsSlot v z) (ap (λ (z : ℕ × ℕ). z.0) e) known, subst (λ (z : ℕ). Has v.workers z) (ap (λ (z : ℕ × ℕ). z.1) e) mine))
          (λ g. i.works.claims y l g)
          (has_cons v.claims (x, k) (y, l) h);
    };
  }

  -- a number is drawn for the least worker, where no row was held
  pub ties_opened : (w : View) (n k : ℕ) → w ≡ opened v n → v.held ≡ [] → k ≡ worker → Ties table w found (set open_rows k (Some n)) worker
  ties_opened w n k is none_ same =
      let few : v.lead < 64 = i.works.few v.lead (subst (λ (z : ℕ). Has v.workers z) i.works.lead i.works.own) in
      let wide : length open_rows ≡ 64 = i.holds.wide in
      let lead : k ≡ v.lead = same ∙ i.works.lead in
      let bare : (j x : ℕ) → get_elem? open_rows j ≡ some (Some x) → ⊥ = λ j x e. let h = i.holds.own j x e in has_none _ (subst (λ (l : List Held). Has l (j, (x, h.0))) none_ h.1) in
      let only : (j x : ℕ) → get_elem? (set open_rows k (Some n)) j ≡ some (Some x) → (j ≡ k) × (n ≡ x) = λ j x e. ⊎_elim (λ s. (s.0, same_some n x s.1)) (λ o. absurd (bare j x o.1)) (at_set open_rows k j (Some n) (Some x) e) in
      subst (λ (u : View). Ties table u found (set open_rows k (Some n)) worker) (sym is) record {
        sizes = i.sizes;
        finds = i.finds;
        holds = record {
          wide = length-set open_rows k (Some n) ∙ i.holds.wide;
          own = λ j x e. let o = only j x e in (replicate 36 0, (0, λ t. some ((sym lead ∙ sym o.0) t, (o.1 t, replicate 36 0))));
          all = λ j x ws h. ⊎_elim
              (λ e.
              let ej : v.lead ≡ j = ap (λ (z : Held). z.0) e in
              let ex : n ≡ x = ap (λ (z : Held). z.1.0) e in
              let ew : replicate 36 0 ≡ ws = ap (λ (z : Held). z.1.1) e in (
                subst (λ (z : ℕ × ℕ). get_elem? (set open_rows k (Some n)) z.0 ≡ some (Some z.1)) (λ t. ((lead ∙ ej) t, ex t)) (set_here open_rows k (Some n) (omega (arith, few, wide, lead))),
                ap (λ (l : List ℕ). length l) (sym ew) ∙ length-replicate {A = ℕ} 36 0,
              ))
              (λ g. absurd (has_none _ (subst (λ (l : List Held). Has l (j, (x, ws))) none_ g)))
              (has_cons v.held (v.lead, (n, replicate 36 0)) (j, (x, ws)) h);
          apart = λ j l x e f. (only j x e).0 ∙ sym (only l x f).0;
        };
        works = record { lead = i.works.lead; own = i.works.own; few = i.works.few; claims = i.works.claims };
      }

  -- a word of an open row is written
  pub ties_writes : (w : View) (x j a : ℕ) → w ≡ writes v x j a → Ties table w found open_rows worker
  ties_writes w x j a is = subst (λ (u : View). Ties table u found open_rows worker) (sym is) record {
    sizes = i.sizes;
    finds = i.finds;
    holds = record {
      wide = i.holds.wide;
      own = λ k y e.
          let h = i.holds.own k y e in
          let m = has_map (put x j a) v.held (k, (y, h.0)) h.1 in
          dite (ℕ_discrete y x)
          (λ e'. (set h.0 j a, subst (λ (z : Held). Has (map (put x j a) v.held) z) (put_as k y h.0 e') m))
          (λ ne. (h.0, subst (λ (z : Held). Has (map (put x j a) v.held) z) (put_other x j a k y h.0 ne) m));
      all = λ k y ws h.
          let m = has_mapped (put x j a) v.held (k, (y, ws)) h in
          let g = m.0 in
          let q = put_parts g in
          let ek : g.0 ≡ k = sym q.0 ∙ ap (λ (z : Held). z.0) m.2 in
          let ey : g.1.0 ≡ y = sym q.1 ∙ ap (λ (z : Held). z.1.0) m.2 in
          let ew : length g.1.1 ≡ length ws = sym q.2 ∙ ap (λ (z : Held). length z.1.1) m.2 in
          let o = i.holds.all g.0 g.1.0 g.1.1 m.1 in
          (subst (λ (z : ℕ × ℕ). get_elem? open_rows z.0 ≡ some (Some z.1)) (λ t. (ek t, ey t)) o.0, sym ew ∙ o.1);
      apart = i.holds.apart;
    };
    works = record { lead = i.works.lead; own = i.works.own; few = i.works.few; claims = i.works.claims };
  }
    where
      put_as : (k y : ℕ) (ws : List ℕ) → y ≡ x → put x j a (k, (y, ws)) ≡ (k, (y, set ws j a))
      put_as k y ws e = subst (λ (z : ℕ). put x j a (k, (z, ws)) ≡ (k, (z, set ws j a))) (sym e) (put_here x j a k ws)

      put_parts : (g : Held) → ((put x j a g).0 ≡ g.0) × ((put x j a g).1.0 ≡ g.1.0) × (length (put x j a g).1.1 ≡ length g.1.1)
      put_parts g = dite (ℕ_discrete g.1.0 x)
          (λ e. let p = put_as g.0 g.1.0 g.1.1 e in (refl, refl, ap (λ (z : Held). length z.1.1) p ∙ length-set g.1.1 j a))
          (λ ne. let p = put_other x j a g.0 g.1.0 g.1.1 ne in (refl, refl, ap (λ (z : Held). length z.1.1) p))

  -- an open row is published
  pub ties_published : (w : View) (p x k m : ℕ) (parent : Option ℕ) (ws : List ℕ) → w ≡ published v p x m parent → x < v.limit → Has v.held (k, (x, ws)) → 0 < p → p ≤ 131072
      → Ties table w (set found x p) (set open_rows k None) worker
  ties_published w p x k m parent ws is low has lo hi =
      let mine = (i.holds.all k x ws has).0 in
      let more = pairs_of x v.held ++ (p, x + 1) ∷ [] in
      let wide : length open_rows ≡ 64 = i.holds.wide in
      let kept : (j y : ℕ) → get_elem? (set open_rows k None) j ≡ some (Some y) → (j ≢ k) × (get_elem? open_rows j ≡ some (Some y)) = λ j y e. ⊎_elim (λ s. absurd (some_not_none y (sym s.1))) (λ o. o) (at_set open_rows k j None (Some y) e) in
      subst (λ (u : View). Ties table u (set found x p) (set open_rows k None) worker) (sym is) record {
        sizes = i.sizes;
        finds = finds_with v.limit v.known more found i.finds p x low lo hi (has_right (pairs_of x v.held) ((p, x + 1) ∷ []) (p, x + 1) (0, refl))
            (λ q n h. ⊎_elim
            (λ g. let r = pairs_of_was x v.held q n g in let e : q ≡ word_of x r.2 = r.4 in inl (omega (arith, e)))
            (λ g. let e = has_only (p, x + 1) (q, n) g in inr (ap (λ (z : ℕ × ℕ). z.0) (sym e), ap (λ (z : ℕ × ℕ). z.1) (sym e)))
            (has_either (pairs_of x v.held) ((p, x + 1) ∷ []) (q, n) h));
        holds = record {
          wide = length-set open_rows k None ∙ i.holds.wide;
          own = λ j y e.
              let o = kept j y e in
              let h = i.holds.own j y o.1 in
              let ne : y ≢ x = λ same. o.0 (i.holds.apart j k x (o.1 ∙ ap (λ (z : ℕ). some (Some z)) same) mine) in
              (h.0, without_kept x v.held j y h.0 h.1 ne);
          all = λ j y us h.
              let o = without_was x v.held j y us h in
              let a = i.holds.all j y us o.0 in
              let ne : j ≢ k = λ same. o.1 (same_some y x (some-injective (Some y) (Some x) (sym a.0 ∙ (ap (λ (z : ℕ). get_elem? open_rows z) same ∙ mine)))) in
              (set_else open_rows k j None ne ∙ a.0, a.1);
          apart = λ j l y e f. i.holds.apart j l y (kept j y e).1 (kept l y f).1;
        };
        works = record {
          lead = i.works.lead;
          own = i.works.own;
          few = i.works.few;
          claims = λ y l h. let c = i.works.claims y l h in ((c.0.0, c.0.1, c.0.2, has_right more v.known _ c.0.3), c.1);
        };
      }

  -- a row is known as published exactly where the array has its slot
  pub not_known : (t : ℕ) → get_or found t 0 ≡ 0 → KnowsSlot v t → ⊥
  not_known t none_ k = i.finds.all k.0 t k.1 k.2 k.3 none_

  pub is_known : (t : ℕ) → get_or found t 0 ≢ 0 → KnowsSlot v t
  is_known t ne = let o = i.finds.slot t ne in (get_or found t 0, omega (arith, ne), o.0, o.1)
