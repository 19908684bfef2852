-- A published row is claimed.
use Rattle.std.proofs.Common.{◌≡◌, ◌≢◌, ℕ, zero, suc, ◌+◌, ◌*◌, ◌<◌, ◌≤◌, List, length, get_or, set, sym, refl, ap, ◌∙◌, subst, ⊎_elim, arith, length-set, get_or-set_same, get_or-set_other}
use mathlib.Core.Option.{some, some-injective}
use mathlib.Core.Logic.{dite}
use native.Mathlib.Decide.{ℕ_discrete}
use lib.ListN.{get_elem?}
use Rattle.table_rule.specs.declared.view.View.{View}
use Rattle.table_rule.specs.Layout.{Has, word_of}
use Rattle.table_rule.specs.Views.{Held, takes}
use Rattle.table_rule.specs.Rule.{IsPublished, Numbers, Opens, Claimed, Claims, Keeps, Rule}
use Rattle.table_rule.proofs.Lists.{has_cons, has_later, has_here}
use Rattle.table_rule.proofs.Rows.{one_row, one_word}
use Rattle.table_rule.proofs.Growing.{Grows, knows_grow, chains_grow, origins_grow, makes_grow, claims_forth, each_set, apart_set}

module _ (b : ℕ) (words : List ℕ) (views : List View) (r : Rule b words views) (id : ℕ) (v : View) (x p k : ℕ)
    (at : get_elem? views id ≡ some v) (has : Has v.workers k) (published : IsPublished r.rows x p) (free : get_or words (word_of x 36) 0 ≡ 0) where
  abbrev w : View
  w = takes v x k

  abbrev words' : List ℕ
  words' = set words (word_of x 36) (k + 1)

  s : Keeps b words r.rows v
  s = r.each id v at

  low : x < 65536 + b
  low = r.numbers.below x p published

  other : (q : ℕ) → q ≢ word_of x 36 → get_or words' q 0 ≡ get_or words q 0
  other q ne = get_or-set_other words (word_of x 36) q (k + 1) 0 ne

  here : get_or words' (word_of x 36) 0 ≡ k + 1
  here = let wide : length words ≡ 37 * (65536 + b) + 131073 = r.numbers.wide in let lt : x < 65536 + b = low in get_or-set_same words (word_of x 36) (k + 1) 0 (omega arith)

  slot_else : (q : ℕ) → q ≤ 131072 → get_or words' q 0 ≡ get_or words q 0
  slot_else q hi = other q (λ e. omega arith)

  body_else : (y j : ℕ) → j < 36 → get_or words' (word_of y j) 0 ≡ get_or words (word_of y j) 0
  body_else y j lt = other (word_of y j) (λ e. let z : j ≡ 36 = one_word y x j 36 (omega arith) (omega arith) e in omega arith)

  claim_else : (y : ℕ) → y ≢ x → get_or words' (word_of y 36) 0 ≡ get_or words (word_of y 36) 0
  claim_else y ne = other (word_of y 36) (λ e. ne (one_row y x 36 36 (omega arith) (omega arith) e))

  -- a claim that was made is of another row
  another : (y n : ℕ) → get_or words (word_of y 36) 0 ≡ n → n ≢ 0 → y ≢ x
  another y n e ne is = ne (sym e ∙ (ap (λ (z : ℕ). get_or words (word_of z 36) 0) is ∙ free))

  grows : Grows b words words' r.rows r.rows
  grows = record {
    slot = λ q m lo hi e ne. slot_else q hi ∙ e;
    body = λ y q j e lt. body_else y j lt;
    claim = λ y m lt e ne. claim_else y (another y m e ne) ∙ e;
    to = λ y q e. e;
  }

  back : (y q : ℕ) → IsPublished r.rows y q → IsPublished r.rows y q
  back y q e = e

  numbers : Numbers b words' r.rows
  numbers = let t = r.numbers in record {
    wide = length-set words (word_of x 36) (k + 1) ∙ t.wide;
    narrow = t.narrow;
    drawn = other 0 (λ e. omega arith) ∙ t.drawn;
    apart = t.apart;
    few = t.few;
    below = t.below;
    slot = λ y q e. let z = t.slot y q e in (z.0, z.1, slot_else q z.1 ∙ z.2);
    named = λ q y lo hi e. t.named q y lo hi (sym (slot_else q hi) ∙ e);
    blank = λ y j past lo lt. body_else y j lt ∙ t.blank y j past lo lt;
  }

  -- the worker that the claim word of x names now
  mine : (y m : ℕ) → y ≡ x → get_or words' (word_of y 36) 0 ≡ m + 1 → m ≡ k
  mine y m is e = let e' : m + 1 ≡ k + 1 = sym e ∙ (ap (λ (z : ℕ). get_or words' (word_of z 36) 0) is ∙ here) in omega arith

  claimed : Claimed b words' r.rows
  claimed y m lt e = dite (ℕ_discrete y x)
      (λ is. (subst (λ (z : ℕ). z < b) (sym (mine y m is e)) (s.workers.bounded k has), (p, subst (λ (z : ℕ). IsPublished r.rows z p) (sym is) published)))
      (λ ne. r.claimed y m lt (sym (claim_else y ne) ∙ e))

  opens_kept : (workers : List ℕ) (held : List Held) → Opens b words r.rows workers held → Opens b words' r.rows workers held
  opens_kept workers held o = record {
    mine = o.mine;
    shown = λ y m us h. let z = o.shown y m us h in (z.0, z.1, (z.2.0, λ j lt lo. body_else y j lt ∙ z.2.1 j lt lo));
  }

  -- x is claimed now, and wasn't
  unclaimed : (workers : List ℕ) (taken : List (ℕ × ℕ)) (m : ℕ) → Claims b words workers taken → Has taken (x, m) → ⊥
  unclaimed workers taken m c h = let t = c.claims x m h in let e : m + 1 ≡ 0 = sym t.1 ∙ free in omega arith

  once : (i j y m l : ℕ) → get_elem? w.claims i ≡ some (y, m) → get_elem? w.claims j ≡ some (y, l) → i ≡ j
  once zero zero y m l e f = refl
  once zero (suc j) y m l e f = absurd (unclaimed v.workers v.claims l s.claims (j, f ∙ ap (λ (z : ℕ). some (z, l)) (sym (ap (λ (z : ℕ × ℕ). z.0) (some-injective (x, k) (y, m) e)))))
  once (suc i) zero y m l e f = absurd (unclaimed v.workers v.claims m s.claims (i, e ∙ ap (λ (z : ℕ). some (z, m)) (sym (ap (λ (z : ℕ × ℕ). z.0) (some-injective (x, k) (y, l) f)))))
  once (suc i) (suc j) y m l e f = ap suc (s.claims.once i j y m l e f)

  claims : Claims b words' v.workers w.claims
  claims = record {
    claims = λ y m h. ⊎_elim
        (λ g. subst (λ (z : ℕ × ℕ). (z.0 < 65536 + b) × (get_or words' (word_of z.0 36) 0 ≡ z.1 + 1) × Has v.workers z.1) g (low, here, has))
        (claims_forth b words words' r.rows r.rows grows v.workers v.claims s.claims y m)
        (has_cons v.claims (x, k) (y, m) h);
    claimed = λ y m lt e h. dite (ℕ_discrete y x)
        (λ is. has_here v.claims (x, k) (y, m) (λ i. (sym is i, sym (mine y m is e) i)))
        (λ ne. has_later v.claims (x, k) (y, m) (s.claims.claimed y m lt (sym (claim_else y ne) ∙ e) h));
    once = once;
  }

  claims_else : (u : View) → (Has u.workers k → ⊥) → Claims b words u.workers u.claims → Claims b words' u.workers u.claims
  claims_else u away c = record {
    claims = claims_forth b words words' r.rows r.rows grows u.workers u.claims c;
    claimed = λ y m lt e h. dite (ℕ_discrete y x)
        (λ is. absurd (away (subst (λ (z : ℕ). Has u.workers z) (mine y m is e) h)))
        (λ ne. c.claimed y m lt (sym (claim_else y ne) ∙ e) h);
    once = c.once;
  }

  pub claimed_kept : Rule b words' (set views id w)
  claimed_kept = record {
    rows = r.rows;
    order = r.order;
    numbers = numbers;
    chains = chains_grow b words words' r.rows r.rows grows back r.chains;
    origins = origins_grow b words words' r.rows r.rows grows back r.claimed r.order r.origins;
    claimed = claimed;
    each = each_set views id v w at (Keeps b words r.rows) (Keeps b words' r.rows) r.each
        (record {
          workers = s.workers;
          opens = opens_kept v.workers v.held s.opens;
          knows = knows_grow b words words' r.rows r.rows grows v.known s.knows;
          makes = makes_grow b words words' r.rows r.rows grows back v.workers v.known v.made s.makes;
          claims = claims;
        })
        (λ j u ne e t. record {
          workers = t.workers;
          opens = opens_kept u.workers u.held t.opens;
          knows = knows_grow b words words' r.rows r.rows grows u.known t.knows;
          makes = makes_grow b words words' r.rows r.rows grows back u.workers u.known u.made t.makes;
          claims = claims_else u (λ h. ne (r.apart j id u v k e at h has)) t.claims;
        });
    apart = apart_set views id v w at refl r.apart;
  }
