-- A number is drawn.
use Rattle.std.proofs.Common.{◌≡◌, ◌⊎◌, ℕ, ◌+◌, ◌*◌, ◌<◌, ◌≤◌, List, [], ◌∷◌, ◌++◌, length, get_or, set, replicate, sym, refl, ap, ◌∙◌, subst, inl, inr, ⊎_elim, arith, length-set, length-append, get_or-set_same, get_or-set_other}
use Rattle.std.proofs.lemmas.List.{length-replicate, get_or-replicate}
use mathlib.Core.Option.{some}
use lib.ListN.{get_elem?}
use Rattle.atomic_table.proofs.Lists.{at_longer, at_last}
use Rattle.table_rule.specs.declared.view.View.{View}
use Rattle.table_rule.specs.Layout.{Has, word_of}
use Rattle.table_rule.specs.Views.{Held, opened}
use Rattle.table_rule.specs.Rule.{Status, open_with, at_slot, IsOpen, IsPublished, Numbers, Shows, Opens, Keeps, Rule}
use Rattle.table_rule.proofs.Lists.{has_none, has_cons, has_here, at_snoc}
use Rattle.table_rule.proofs.Growing.{Grows, open_slot, same_open, knows_grow, chains_grow, origins_grow, makes_grow, claimed_grow, claims_grow, each_set, apart_set}

module _ (b : ℕ) (words : List ℕ) (views : List View) (r : Rule b words views) (id : ℕ) (v : View)
    (at : get_elem? views id ≡ some v) (has : Has v.workers v.lead) (nothing : v.held ≡ []) where
  abbrev n : ℕ
  n = length r.rows

  abbrev k : ℕ
  k = v.lead

  abbrev w : View
  w = opened v n

  abbrev words' : List ℕ
  words' = set words 0 (n + 1)

  abbrev rows' : List Status
  rows' = r.rows ++ open_with k ∷ []

  s : Keeps b words r.rows v
  s = r.each id v at

  not_held : (h : Held) → Has v.held h → ⊥
  not_held h g = has_none h (subst (λ (l : List Held). Has l h) nothing g)

  fresh : (y : ℕ) → IsOpen r.rows y k → ⊥
  fresh y e = let m = s.opens.mine y k e has in not_held (k, (y, m.0)) m.1

  other : (q : ℕ) → 0 < q → get_or words' q 0 ≡ get_or words q 0
  other q lo = get_or-set_other words 0 q (n + 1) 0 (λ e. omega arith)

  word : (y j : ℕ) → get_or words' (word_of y j) 0 ≡ get_or words (word_of y j) 0
  word y j = other (word_of y j) (omega arith)

  longer : (y : ℕ) (t : Status) → get_elem? r.rows y ≡ some t → get_elem? rows' y ≡ some t
  longer y t e = at_longer r.rows (open_with k ∷ []) y t e

  published_was : (y p : ℕ) → IsPublished rows' y p → IsPublished r.rows y p
  published_was y p e = ⊎_elim (λ h. h) (λ h. absurd (open_slot k p h.1)) (at_snoc r.rows (open_with k) (at_slot p) y e)

  open_was : (y m : ℕ) → IsOpen rows' y m → IsOpen r.rows y m ⊎ ((y ≡ n) × (k ≡ m))
  open_was y m e = ⊎_elim (λ h. inl h) (λ h. inr (h.0, same_open k m h.1)) (at_snoc r.rows (open_with k) (open_with m) y e)

  grows : Grows b words words' r.rows rows'
  grows = record {
    slot = λ p m lo hi e ne. other p lo ∙ e;
    body = λ x p j e lt. word x j;
    claim = λ x m lt e ne. word x 36 ∙ e;
    to = λ x p e. longer x (at_slot p) e;
  }

  one_more : length rows' ≡ n + 1
  one_more = length-append r.rows (open_with k ∷ [])

  numbers : Numbers b words' rows'
  numbers = let t = r.numbers in record {
    wide = length-set words 0 (n + 1) ∙ t.wide;
    narrow = t.narrow;
    drawn = let wide : length words ≡ 37 * (65536 + b) + 131073 = t.wide in get_or-set_same words 0 (n + 1) 0 (omega arith) ∙ sym one_more;
    apart = λ y z m ey ez. ⊎_elim
        (λ hy. ⊎_elim (λ hz. t.apart y z m hy hz) (λ hz. absurd (fresh y (hy ∙ ap (λ (c : ℕ). some (open_with c)) (sym hz.1)))) (open_was z m ez))
        (λ hy. ⊎_elim (λ hz. absurd (fresh z (hz ∙ ap (λ (c : ℕ). some (open_with c)) (sym hy.1)))) (λ hz. hy.0 ∙ sym hz.0) (open_was z m ez))
        (open_was y m ey);
    few = λ y m e. ⊎_elim (λ h. t.few y m h) (λ h. subst (λ (c : ℕ). c < b) h.1 (s.workers.bounded k has)) (open_was y m e);
    below = λ y p e. t.below y p (published_was y p e);
    slot = λ y p e. let z = t.slot y p (published_was y p e) in (z.0, z.1, other p z.0 ∙ z.2);
    named = λ p y lo hi e. longer y (at_slot p) (t.named p y lo hi (sym (other p lo) ∙ e));
    blank = λ y j past lo lt. let past' : n + 1 ≤ y = subst (λ (m : ℕ). m ≤ y) one_more past in word y j ∙ t.blank y j (omega arith) lo lt;
  }

  blanks : Shows b words' n (replicate 36 0)
  blanks = let zero_ : ℕ = 0 in (length-replicate 36 zero_, λ j lt lo. word n j ∙ (r.numbers.blank n j (omega arith) lo lt ∙ sym (get_or-replicate 36 j zero_ zero_ lt)))

  opens : Opens b words' rows' v.workers w.held
  opens = record {
    mine = λ y m e h. ⊎_elim
        (λ e'. let z = s.opens.mine y m e' h in absurd (not_held (m, (y, z.0)) z.1))
        (λ e'. (replicate 36 0, has_here v.held (k, (n, replicate 36 0)) (m, (y, replicate 36 0)) (λ i. (e'.1 i, (sym e'.0 i, replicate 36 0)))))
        (open_was y m e);
    shown = λ y m ws h. ⊎_elim
        (λ e. subst (λ (z : Held). IsOpen rows' z.1.0 z.0 × Has v.workers z.0 × Shows b words' z.1.0 z.1.1) e (at_last r.rows (open_with k) n refl, has, blanks))
        (λ g. absurd (not_held (m, (y, ws)) g))
        (has_cons v.held (k, (n, replicate 36 0)) (m, (y, ws)) h);
  }

  opens_else : (u : View) → (Has u.workers k → ⊥) → Opens b words r.rows u.workers u.held → Opens b words' rows' u.workers u.held
  opens_else u away o = record {
    mine = λ y m e h. ⊎_elim (λ z. o.mine y m z h) (λ z. absurd (away (subst (λ (c : ℕ). Has u.workers c) (sym z.1) h))) (open_was y m e);
    shown = λ y m ws h. let z = o.shown y m ws h in (longer y (open_with m) z.0, z.1, (z.2.0, λ i lt lo. word y i ∙ z.2.1 i lt lo));
  }

  pub drawn_kept : Rule b words' (set views id w)
  drawn_kept = record {
    rows = rows';
    order = r.order;
    numbers = numbers;
    chains = chains_grow b words words' r.rows rows' grows published_was r.chains;
    origins = origins_grow b words words' r.rows rows' grows published_was r.claimed r.order r.origins;
    claimed = claimed_grow b words words' r.rows rows' grows (λ x lt. word x 36) r.claimed;
    each = each_set views id v w at (Keeps b words r.rows) (Keeps b words' rows') r.each
        (record {
          workers = s.workers;
          opens = opens;
          knows = knows_grow b words words' r.rows rows' grows v.known s.knows;
          makes = makes_grow b words words' r.rows rows' grows published_was v.workers v.known v.made s.makes;
          claims = claims_grow b words words' r.rows rows' grows (λ x lt. word x 36) v.workers v.claims s.claims;
        })
        (λ j u ne e t. record {
          workers = t.workers;
          opens = opens_else u (λ h. ne (r.apart j id u v k e at h has)) t.opens;
          knows = knows_grow b words words' r.rows rows' grows u.known t.knows;
          makes = makes_grow b words words' r.rows rows' grows published_was u.workers u.known u.made t.makes;
          claims = claims_grow b words words' r.rows rows' grows (λ x lt. word x 36) u.workers u.claims t.claims;
        });
    apart = apart_set views id v w at refl r.apart;
  }
