-- A word of an own open row is written.
use Rattle.std.proofs.Common.{◌≡◌, ◌≢◌, ℕ, ◌+◌, ◌*◌, ◌<◌, ◌≤◌, List, length, get_or, set, sym, refl, ap, ◌∙◌, subst, arith, length-set, get_or-set_same, get_or-set_other}
use mathlib.Core.Option.{some}
use mathlib.Core.Logic.{dite}
use native.Mathlib.Decide.{ℕ_discrete}
use lib.ListN.{get_elem?}
use Rattle.table_rule.specs.declared.view.View.{View}
use Rattle.table_rule.specs.Layout.{Has, word_of}
use Rattle.table_rule.specs.Views.{Held, put, writes}
use Rattle.table_rule.specs.Rule.{open_with, IsOpen, IsPublished, Numbers, Shows, Opens, Keeps, Rule}
use Rattle.table_rule.proofs.Lists.{has_map, has_mapped, at_within}
use Rattle.table_rule.proofs.Rows.{one_row, one_word, put_here, put_other}
use Rattle.table_rule.proofs.Growing.{Grows, open_published, one_worker, knows_grow, chains_grow, origins_grow, makes_grow, claimed_grow, claims_grow, each_set, apart_set}

module _ (b : ℕ) (words : List ℕ) (views : List View) (r : Rule b words views) (id : ℕ) (v : View) (k x : ℕ) (ws : List ℕ) (i a : ℕ)
    (at : get_elem? views id ≡ some v) (holds : Has v.held (k, (x, ws))) (low : x < 65536 + b) (within : i < 36) where
  abbrev w : View
  w = writes v x i a

  abbrev words' : List ℕ
  words' = set words (word_of x i) a

  s : Keeps b words r.rows v
  s = r.each id v at

  own : IsOpen r.rows x k × Has v.workers k × Shows b words x ws
  own = s.opens.shown x k ws holds

  other : (q : ℕ) → q ≢ word_of x i → get_or words' q 0 ≡ get_or words q 0
  other q ne = get_or-set_other words (word_of x i) q a 0 ne

  here : get_or words' (word_of x i) 0 ≡ a
  here = let wide : length words ≡ 37 * (65536 + b) + 131073 = r.numbers.wide in get_or-set_same words (word_of x i) a 0 (omega arith)

  slot_else : (p : ℕ) → p ≤ 131072 → get_or words' p 0 ≡ get_or words p 0
  slot_else p hi = other p (λ e. omega arith)

  row_else : (y j : ℕ) → y ≢ x → j < 37 → get_or words' (word_of y j) 0 ≡ get_or words (word_of y j) 0
  row_else y j ne lt = other (word_of y j) (λ e. ne (one_row y x j i lt (omega arith) e))

  claim_else : (y : ℕ) → get_or words' (word_of y 36) 0 ≡ get_or words (word_of y 36) 0
  claim_else y = other (word_of y 36) (λ e. let z : 36 ≡ i = one_word y x 36 i (omega arith) (omega arith) e in omega arith)

  published_else : (y p j : ℕ) → IsPublished r.rows y p → j < 37 → get_or words' (word_of y j) 0 ≡ get_or words (word_of y j) 0
  published_else y p j e lt = row_else y j (λ is. open_published r.rows x k p own.0 (subst (λ (z : ℕ). IsPublished r.rows z p) is e)) lt

  grows : Grows b words words' r.rows r.rows
  grows = record {
    slot = λ p m lo hi e ne. slot_else p hi ∙ e;
    body = λ y p j e lt. published_else y p j e (omega arith);
    claim = λ y m lt e ne. claim_else y ∙ e;
    to = λ y p e. e;
  }

  back : (y p : ℕ) → IsPublished r.rows y p → IsPublished r.rows y p
  back y p e = e

  numbers : Numbers b words' r.rows
  numbers = let t = r.numbers in record {
    wide = length-set words (word_of x i) a ∙ t.wide;
    narrow = t.narrow;
    drawn = other 0 (λ e. omega arith) ∙ t.drawn;
    apart = t.apart;
    few = t.few;
    below = t.below;
    slot = λ y p e. let z = t.slot y p e in (z.0, z.1, slot_else p z.1 ∙ z.2);
    named = λ p y lo hi e. t.named p y lo hi (sym (slot_else p hi) ∙ e);
    blank = λ y j past lo lt. let in_ : x < length r.rows = at_within r.rows x (open_with k) own.0 in row_else y j (λ e. omega arith) (omega arith) ∙ t.blank y j past lo lt;
  }

  shows_here : (us : List ℕ) → Shows b words x us → Shows b words' x (set us i a)
  shows_here us h = let long : length us ≡ 36 = h.0 in (
    length-set us i a ∙ long,
    λ j lt lo. dite (ℕ_discrete j i)
        (λ e. subst (λ (z : ℕ). get_or words' (word_of x z) 0 ≡ get_or (set us i a) z 0) (sym e) (here ∙ sym (get_or-set_same us i a 0 (omega (arith, long)))))
        (λ ne. other (word_of x j) (λ e. ne (one_word x x j i (omega arith) (omega arith) e)) ∙ (h.1 j lt lo ∙ sym (get_or-set_other us i j a 0 ne))),
  )

  shows_else : (y : ℕ) (us : List ℕ) → y ≢ x → Shows b words y us → Shows b words' y us
  shows_else y us ne h = (h.0, λ j lt lo. row_else y j ne (omega arith) ∙ h.1 j lt lo)

  opens : Opens b words' r.rows v.workers w.held
  opens = record {
    mine = λ y m e h. let t = s.opens.mine y m e h in let g = has_map (put x i a) v.held (m, (y, t.0)) t.1 in dite (ℕ_discrete y x)
        (λ is. (set t.0 i a, subst (λ (z : ℕ). Has w.held (m, (z, set t.0 i a))) (sym is) (subst (λ (z : Held). Has w.held z) (put_here x i a m t.0) (subst (λ (z : ℕ). Has w.held (put x i a (m, (z, t.0)))) is g))))
        (λ ne. (t.0, subst (λ (z : Held). Has w.held z) (put_other x i a m y t.0 ne) g));
    shown = λ y m us h. let g = has_mapped (put x i a) v.held (m, (y, us)) h in let o = g.0 in let t = s.opens.shown o.1.0 o.0 o.1.1 g.1 in
        subst (λ (z : Held). IsOpen r.rows z.1.0 z.0 × Has v.workers z.0 × Shows b words' z.1.0 z.1.1) g.2 (
          t.0,
          t.1,
          dite (ℕ_discrete o.1.0 x)
              (λ is. subst (λ (z : Held). Shows b words' z.1.0 z.1.1) (sym (ap (λ (c : ℕ). put x i a (o.0, (c, o.1.1))) is ∙ put_here x i a o.0 o.1.1)) (shows_here o.1.1 (subst (λ (c : ℕ). Shows b words c o.1.1) is t.2)))
              (λ ne. subst (λ (z : Held). Shows b words' z.1.0 z.1.1) (sym (put_other x i a o.0 o.1.0 o.1.1 ne)) (shows_else o.1.0 o.1.1 ne t.2)),
        );
  }

  opens_else : (u : View) → (Has u.workers k → ⊥) → Opens b words r.rows u.workers u.held → Opens b words' r.rows u.workers u.held
  opens_else u away o = record {
    mine = o.mine;
    shown = λ y m us h. let z = o.shown y m us h in (z.0, z.1, shows_else y us (λ is. away (subst (λ (c : ℕ). Has u.workers c) (one_worker r.rows x m k (subst (λ (c : ℕ). IsOpen r.rows c m) is z.0) own.0) z.1)) z.2);
  }

  pub stored_kept : Rule b words' (set views id w)
  stored_kept = record {
    rows = r.rows;
    order = r.order;
    numbers = numbers;
    chains = chains_grow b words words' r.rows r.rows grows back r.chains;
    origins = origins_grow b words words' r.rows r.rows grows back r.claimed r.order r.origins;
    claimed = claimed_grow b words words' r.rows r.rows grows (λ y lt. claim_else y) r.claimed;
    each = each_set views id v w at (Keeps b words r.rows) (Keeps b words' r.rows) r.each
        (record {
          workers = s.workers;
          opens = opens;
          knows = knows_grow b words words' r.rows r.rows grows v.known s.knows;
          makes = makes_grow b words words' r.rows r.rows grows back v.workers v.known v.made s.makes;
          claims = claims_grow b words words' r.rows r.rows grows (λ y lt. claim_else y) v.workers v.claims s.claims;
        })
        (λ j u ne e t. record {
          workers = t.workers;
          opens = opens_else u (λ h. ne (r.apart j id u v k e at h own.1)) t.opens;
          knows = knows_grow b words words' r.rows r.rows grows u.known t.knows;
          makes = makes_grow b words words' r.rows r.rows grows back u.workers u.known u.made t.makes;
          claims = claims_grow b words words' r.rows r.rows grows (λ y lt. claim_else y) u.workers u.claims t.claims;
        });
    apart = apart_set views id v w at refl r.apart;
  }
