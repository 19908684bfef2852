-- An open row is put into a slot.
use Rattle.std.proofs.Common.{◌≡◌, ◌≢◌, ◌⊎◌, ℕ, ◌+◌, ◌*◌, ◌%◌, ◌/◌, ◌<◌, ◌≤◌, List, [], ◌∷◌, ◌++◌, length, get_or, set, sym, refl, ap, ◌∙◌, subst, inl, inr, ⊎_elim, arith, length-set, get_or-set_same, get_or-set_other}
use Rattle.std.specs.Prelude.{Option, Some, None}
use mathlib.Core.Option.{some}
use mathlib.Core.Logic.{dite}
use native.Mathlib.Decide.{ℕ_discrete}
use lib.ListN.{get_elem?}
use Rattle.atomic_table.proofs.Lists.{at_set, at_longer, at_last, set_here, set_else}
use Rattle.table_rule.specs.declared.view.View.{View}
use Rattle.table_rule.specs.Layout.{Has, slots, word_of, content, generation, named, probe}
use Rattle.table_rule.specs.Views.{pairs_of, published}
use Rattle.table_rule.specs.Rule.{Status, open_with, at_slot, IsOpen, IsPublished, Numbers, Shows, Opens, Knows, IsChained, Chains, IsUnder, IsFrom, Origins, Makes, Keeps, Rule}
use Rattle.table_rule.specs.Tells.{KnowsOther, Clear, IsBookedUnder, IsReady}
use Rattle.table_rule.proofs.Lists.{at_snoc, at_within, has_cons, has_later, has_here, has_left, has_right, read_at}
use Rattle.table_rule.proofs.Rows.{word_at, length_span, span_at, content_is, probe_low, probe_high, halves, without_kept, without_was, pairs_of_was}
use Rattle.table_rule.proofs.Growing.{Grows, open_slot, same_slot, open_published, one_worker, knows_grow, generation_grow, content_grow, chained_grow, under_grow, from_grow, makes_forth, claimed_grow, claims_grow, each_set, apart_set}
use Rattle.table_rule.proofs.Learning.{knows_more, knows_one}

-- a row of which the view knows another length or word has other words
pub other_content : (b : ℕ) (words : List ℕ) (rows : List Status) (v : View) (y : ℕ) (row : List ℕ) → Knows b words rows v.known → KnowsOther v y row → content words y ≢ row
other_content b words rows v y row s (inl h) e =
    let head : get_or words (word_of y 0) 0 ≡ h.0 = (s (word_of y 0) h.0 h.1).0 in
    h.2 (ap (λ (n : ℕ). n % 64) (sym head) ∙ (sym (length_span words (word_of y 0 + 1) (get_or words (word_of y 0) 0 % 64)) ∙ ap length e))
other_content b words rows v y row s (inr h) e =
    let here = span_at words (word_of y 0 + 1) (get_or words (word_of y 0) 0 % 64) h.0 h.1 (ap (λ (l : List ℕ). get_elem? l h.0) e ∙ h.4) in
    let known = (s (word_of y (h.0 + 1)) h.2 h.3).0 in
    h.5 (sym known ∙ (word_at words (word_of y (h.0 + 1)) (word_of y 0 + 1 + h.0) (omega arith) ∙ here.1))

module _ (b : ℕ) (words : List ℕ) (views : List View) (r : Rule b words views) (id : ℕ) (v : View) (k x : ℕ) (ws row : List ℕ) (p i m : ℕ) (parent : Option ℕ)
    (at : get_elem? views id ≡ some v) (holds : Has v.held (k, (x, ws))) (low : x < 65536 + b) (is : p ≡ probe row i) (clear : Clear v row i) (ready : IsReady v ws row m parent) (free : get_or words p 0 ≡ 0) where
  abbrev w : View
  w = published v p x m parent

  abbrev words' : List ℕ
  words' = set words p (x + 1)

  abbrev rows' : List Status
  rows' = set r.rows x (at_slot p)

  abbrev order' : List ℕ
  order' = r.order ++ x ∷ []

  lo : 0 < p
  lo = subst (λ (z : ℕ). 0 < z) (sym is) (probe_low row i)

  hi : p ≤ 131072
  hi = subst (λ (z : ℕ). z ≤ 131072) (sym is) (probe_high row i)

  s : Keeps b words r.rows v
  s = r.each id v at

  own : IsOpen r.rows x k × Has v.workers k × Shows b words x ws
  own = s.opens.shown x k ws holds

  other : (q : ℕ) → q ≢ p → get_or words' q 0 ≡ get_or words q 0
  other q ne = get_or-set_other words p q (x + 1) 0 ne

  word : (y j : ℕ) → get_or words' (word_of y j) 0 ≡ get_or words (word_of y j) 0
  word y j = let hi' = hi in other (word_of y j) (λ e. omega arith)

  here : get_or words' p 0 ≡ x + 1
  here = let wide : length words ≡ 37 * (65536 + b) + 131073 = r.numbers.wide in let hi' = hi in get_or-set_same words p (x + 1) 0 (omega arith)

  -- a slot that names a row is another
  another : (q n : ℕ) → get_or words q 0 ≡ n → n ≢ 0 → q ≢ p
  another q n e ne z = ne (sym e ∙ (ap (λ (c : ℕ). get_or words c 0) z ∙ free))

  published_here : IsPublished rows' x p
  published_here = set_here r.rows x (at_slot p) (at_within r.rows x (open_with k) own.0)

  not_x : (y q : ℕ) → IsPublished r.rows y q → y ≢ x
  not_x y q e h = open_published r.rows x k q own.0 (subst (λ (z : ℕ). IsPublished r.rows z q) h e)

  published_else : (y q : ℕ) → IsPublished r.rows y q → IsPublished rows' y q
  published_else y q e = set_else r.rows x y (at_slot p) (not_x y q e) ∙ e

  published_was : (y q : ℕ) → IsPublished rows' y q → ((x ≡ y) × (p ≡ q)) ⊎ IsPublished r.rows y q
  published_was y q e = ⊎_elim (λ h. inl (sym h.0, same_slot p q h.1)) (λ h. inr h.1) (at_set r.rows x y (at_slot p) (at_slot q) e)

  open_was : (y n : ℕ) → IsOpen rows' y n → (y ≢ x) × IsOpen r.rows y n
  open_was y n e = ⊎_elim (λ h. absurd (open_slot n p (sym h.1))) (λ h. h) (at_set r.rows x y (at_slot p) (open_with n) e)

  grows : Grows b words words' r.rows rows'
  grows = record {
    slot = λ q n lo' hi' e ne. other q (another q n e ne) ∙ e;
    body = λ y q j e lt. word y j;
    claim = λ y n lt e ne. word y 36 ∙ e;
    to = published_else;
  }

  claim_same : (y : ℕ) → y < 65536 + b → get_or words' (word_of y 36) 0 ≡ get_or words (word_of y 36) 0
  claim_same y lt = word y 36

  shown : (j : ℕ) → j < 36 → get_or words' (word_of x j) 0 ≡ get_or ws j 0
  shown j lt = word x j ∙ own.2.1 j lt low

  content_here : content words' x ≡ row
  content_here = content_is words' ws (word_of x 0) 0 ready.short (λ j lt. word_at words' (word_of x 0 + j) (word_of x j) (omega arith) ∙ (shown j lt ∙ word_at ws j (0 + j) (omega arith))) ∙ ready.content

  numbers : Numbers b words' rows'
  numbers = let t = r.numbers in record {
    wide = length-set words p (x + 1) ∙ t.wide;
    narrow = t.narrow;
    drawn = let lo' = lo in other 0 (λ e. omega arith) ∙ (t.drawn ∙ sym (length-set r.rows x (at_slot p)));
    apart = λ y z n ey ez. t.apart y z n (open_was y n ey).1 (open_was z n ez).1;
    few = λ y n e. t.few y n (open_was y n e).1;
    below = λ y q e. ⊎_elim (λ h. subst (λ (z : ℕ). z < 65536 + b) h.0 low) (λ h. t.below y q h) (published_was y q e);
    slot = λ y q e. ⊎_elim
        (λ h. subst (λ (z : ℕ × ℕ). (0 < z.1) × (z.1 ≤ slots) × (get_or words' z.1 0 ≡ z.0 + 1)) (λ i'. (h.0 i', h.1 i')) (lo, hi, here))
        (λ h. let z = t.slot y q h in (z.0, z.1, other q (another q (y + 1) z.2 (λ e'. omega arith)) ∙ z.2))
        (published_was y q e);
    named = λ q y lo' hi' e. dite (ℕ_discrete q p)
        (λ h. let e' : x + 1 ≡ y + 1 = sym here ∙ subst (λ (c : ℕ). get_or words' c 0 ≡ y + 1) h e in let same : x ≡ y = omega arith in subst (λ (z : ℕ × ℕ). IsPublished rows' z.0 z.1) (λ i'. (same i', sym h i')) published_here)
        (λ ne. published_else y q (t.named q y lo' hi' (sym (other q ne) ∙ e)));
    blank = λ y j past lo' lt. word y j ∙ t.blank y j (subst (λ (c : ℕ). c ≤ y) (length-set r.rows x (at_slot p)) past) lo' lt;
  }

  chained_here : IsChained words' rows' row p
  chained_here = (
    i,
    is,
    λ j lt.
        let t = clear j lt in
        let known = s.knows (probe row j) (t.0 + 1) t.1 in
        let y = r.numbers.named (probe row j) t.0 (probe_low row j) (probe_high row j) known.0 in
        (t.0, published_else t.0 (probe row j) y, λ e. other_content b words r.rows v t.0 row s.knows t.2 (sym (content_grow b words words' r.rows rows' grows r.chains t.0 (probe row j) y) ∙ e)),
  )

  chains : Chains words' rows'
  chains = record {
    short = λ y q e. ⊎_elim
        (λ h. subst (λ (z : ℕ). get_or words' (word_of z 0) 0 % 64 ≤ 34) h.0 (subst (λ (n : ℕ). n % 64 ≤ 34) (sym (shown 0 (omega arith))) ready.short))
        (λ h. subst (λ (n : ℕ). n % 64 ≤ 34) (sym (word y 0)) (r.chains.short y q h))
        (published_was y q e);
    chain = λ y q e. ⊎_elim
        (λ h. subst (λ (z : ℕ × ℕ). IsChained words' rows' (content words' z.0) z.1) (λ i'. (h.0 i', h.1 i')) (subst (λ (l : List ℕ). IsChained words' rows' l p) (sym content_here) chained_here))
        (λ h. subst (λ (l : List ℕ). IsChained words' rows' l q) (sym (content_grow b words words' r.rows rows' grows r.chains y q h)) (chained_grow b words words' r.rows rows' grows r.chains (content words y) q (r.chains.chain y q h)))
        (published_was y q e);
  }

  generation_here : generation words' x ≡ get_or ws 0 0 / 64
  generation_here = ap (λ (n : ℕ). n / 64) (shown 0 (omega arith))

  -- the parent's generation
  parent_generation : (y h : ℕ) → Has v.known (word_of y 0, h) → generation words y ≡ h / 64
  parent_generation y h known = ap (λ (n : ℕ). n / 64) (s.knows (word_of y 0) h known).0

  generation_low : (g : ℕ) (o : Option ℕ) → IsBookedUnder v g m o → g ≤ length r.order
  generation_low g None e = let e' : g ≡ 0 = e in omega arith
  generation_low g (Some y) t =
      let c = s.claims.claims y m t.1 in
      let q = (r.claimed y m c.0 c.1).1 in
      let j = r.origins.listed y q.0 q.1 in
      let n : generation words y ≤ j.0 = (r.origins.ordered j.0 y j.1).2 in
      let lt : j.0 < length r.order = at_within r.order j.0 y j.1 in
      let is' : generation words y ≡ t.0 / 64 = parent_generation y t.0 t.2 in
      let e : g ≡ t.0 / 64 + 1 = t.3 in
      let c0 : ℕ = generation words y in
      let h0 : ℕ = t.0 / 64 in
      omega arith

  under_here : (g : ℕ) (o : Option ℕ) → IsBookedUnder v g m o → IsUnder b words g m o
  under_here g None e = e
  under_here g (Some y) t = let c = s.claims.claims y m t.1 in (c.0, c.1, t.3 ∙ ap (λ (n : ℕ). n + 1) (sym (parent_generation y t.0 t.2)))

  from_here : IsFrom b words' x m parent
  from_here = record {
    word = shown 35 (omega arith) ∙ ready.origin;
    maker = s.workers.bounded m ready.maker;
    under = subst (λ (n : ℕ). IsUnder b words' n m parent) (sym generation_here) (under_grow b words words' r.rows rows' grows r.claimed (get_or ws 0 0 / 64) m parent (under_here (get_or ws 0 0 / 64) parent ready.under));
  }

  origins : Origins b words' rows' order'
  origins = let t = r.origins in record {
    listed = λ y q e. ⊎_elim
        (λ h. (length r.order, subst (λ (z : ℕ). get_elem? order' (length r.order) ≡ some z) h.0 (at_last r.order x (length r.order) refl)))
        (λ h. let z = t.listed y q h in (z.0, at_longer r.order (x ∷ []) z.0 y z.1))
        (published_was y q e);
    ordered = λ j y e. ⊎_elim
        (λ h. let z = t.ordered j y h in (z.0, published_else y z.0 z.1, subst (λ (n : ℕ). n ≤ j) (sym (generation_grow b words words' r.rows rows' grows y z.0 z.1)) z.2))
        (λ h. (p, subst (λ (z : ℕ). IsPublished rows' z p) h.1 published_here, subst (λ (z : ℕ). generation words' z ≤ j) h.1 (subst (λ (n : ℕ). n ≤ j) (sym generation_here) (subst (λ (n : ℕ). get_or ws 0 0 / 64 ≤ n) (sym h.0) (generation_low (get_or ws 0 0 / 64) parent ready.under)))))
        (at_snoc r.order x y j e);
    single = λ j l y ej el. ⊎_elim
        (λ h. ⊎_elim (λ g. t.single j l y h g) (λ g. let z = t.ordered j y h in absurd (not_x y z.0 z.1 (sym g.1))) (at_snoc r.order x y l el))
        (λ h. ⊎_elim (λ g. let z = t.ordered l y g in absurd (not_x y z.0 z.1 (sym h.1))) (λ g. h.0 ∙ sym g.0) (at_snoc r.order x y l el))
        (at_snoc r.order x y j ej);
    origin = λ y q e. ⊎_elim
        (λ h. subst (λ (z : ℕ). (n : ℕ) × (o : Option ℕ) × IsFrom b words' z n o) h.0 (m, parent, from_here))
        (λ h. let z = t.origin y q h in (z.0, z.1, from_grow b words words' r.rows rows' grows r.claimed y q z.0 z.1 h z.2))
        (published_was y q e);
  }

  opens : Opens b words' rows' v.workers w.held
  opens = record {
    mine = λ y n e h. let was = open_was y n e in let t = s.opens.mine y n was.1 h in (t.0, without_kept x v.held n y t.0 t.1 was.0);
    shown = λ y n us h. let g = without_was x v.held n y us h in let z = s.opens.shown y n us g.0 in (set_else r.rows x y (at_slot p) g.1 ∙ z.0, z.1, (z.2.0, λ j lt lo'. word y j ∙ z.2.1 j lt lo'));
  }

  opens_else : (u : View) → (Has u.workers k → ⊥) → Opens b words r.rows u.workers u.held → Opens b words' rows' u.workers u.held
  opens_else u away o = record {
    mine = λ y n e h. o.mine y n (open_was y n e).1 h;
    shown = λ y n us h. let z = o.shown y n us h in
        let ne : y ≢ x = λ e. away (subst (λ (c : ℕ). Has u.workers c) (one_worker r.rows x n k (subst (λ (c : ℕ). IsOpen r.rows c n) e z.0) own.0) z.1) in
        (set_else r.rows x y (at_slot p) ne ∙ z.0, z.1, (z.2.0, λ j lt lo'. word y j ∙ z.2.1 j lt lo'));
  }

  knows_here : Knows b words' rows' (pairs_of x v.held ++ (p, x + 1) ∷ [])
  knows_here = knows_more b words' rows' (pairs_of x v.held) ((p, x + 1) ∷ [])
      (λ q n h. let t = pairs_of_was x v.held q n h in
      let z = s.opens.shown x t.0 t.1 t.3 in
      let long : length t.1 ≡ 36 = z.2.0 in
      let lt : t.2 < length t.1 = at_within t.1 t.2 n t.5 in
      let lt' : t.2 < 36 = omega arith in
      (ap (λ (c : ℕ). get_or words' c 0) t.4 ∙ (word x t.2 ∙ (z.2.1 t.2 lt' low ∙ read_at t.1 t.2 n t.5)), inr (inl (x, t.2, p, t.4, lt', published_here))))
      (knows_one b words' rows' p (x + 1) here (inl (lo, hi, λ e. omega arith)))

  named_here : Has w.known (p, x + 1)
  named_here = has_left (pairs_of x v.held ++ (p, x + 1) ∷ []) v.known (p, x + 1) (has_right (pairs_of x v.held) ((p, x + 1) ∷ []) (p, x + 1) (0, refl))

  narrow : (n : ℕ) → n < b → n < 64
  narrow n lt = let few : b ≤ 64 = r.numbers.narrow in omega arith

  made_by : (n : ℕ) (o : Option ℕ) → n < b → get_or words' (word_of x 35) 0 ≡ n + 64 * named o → (n ≡ m) × (o ≡ parent)
  made_by n o lt e = halves n m o parent (narrow n lt) (narrow m (s.workers.bounded m ready.maker)) (sym e ∙ from_here.word)

  makes : Makes words' rows' v.workers w.known w.made
  makes = record {
    makes = λ y n o h. ⊎_elim
        (λ g. subst (λ (z : ℕ × (ℕ × Option ℕ)). (get_or words' (word_of z.0 35) 0 ≡ z.1.0 + 64 * named z.1.1) × Has v.workers z.1.0 × ((q : ℕ) × IsPublished rows' z.0 q × Has w.known (q, z.0 + 1))) g (from_here.word, ready.maker, (p, published_here, named_here)))
        (λ g. let t = makes_forth b words words' r.rows rows' grows v.workers v.known v.made s.makes y n o g in (t.0, t.1, (t.2.0, t.2.1, has_right (pairs_of x v.held ++ (p, x + 1) ∷ []) v.known (t.2.0, y + 1) t.2.2)))
        (has_cons v.made (x, (m, parent)) (y, (n, o)) h);
    made = λ y q n o e is' h. ⊎_elim
        (λ g. let d = made_by n o (s.workers.bounded n h) (subst (λ (z : ℕ). get_or words' (word_of z 35) 0 ≡ n + 64 * named o) (sym g.0) is') in has_here v.made (x, (m, parent)) (y, (n, o)) (λ i'. (g.0 i', (sym d.0 i', sym d.1 i'))))
        (λ g. has_later v.made (x, (m, parent)) (y, (n, o)) (s.makes.made y q n o g (sym (word y 35) ∙ is') h))
        (published_was y q e);
  }

  makes_else : (u : View) → ((n : ℕ) → Has u.workers n → n < b) → (Has u.workers m → ⊥) → Makes words r.rows u.workers u.known u.made → Makes words' rows' u.workers u.known u.made
  makes_else u bounded away t = record {
    makes = makes_forth b words words' r.rows rows' grows u.workers u.known u.made t;
    made = λ y q n o e is' h. ⊎_elim
        (λ g. let d = made_by n o (bounded n h) (subst (λ (z : ℕ). get_or words' (word_of z 35) 0 ≡ n + 64 * named o) (sym g.0) is') in absurd (away (subst (λ (z : ℕ). Has u.workers z) d.0 h)))
        (λ g. t.made y q n o g (sym (word y 35) ∙ is') h)
        (published_was y q e);
  }

  pub published_kept : Rule b words' (set views id w)
  published_kept = record {
    rows = rows';
    order = order';
    numbers = numbers;
    chains = chains;
    origins = origins;
    claimed = claimed_grow b words words' r.rows rows' grows claim_same r.claimed;
    each = each_set views id v w at (Keeps b words r.rows) (Keeps b words' rows') r.each
        (record {
          workers = s.workers;
          opens = opens;
          knows = knows_more b words' rows' (pairs_of x v.held ++ (p, x + 1) ∷ []) v.known knows_here (knows_grow b words words' r.rows rows' grows v.known s.knows);
          makes = makes;
          claims = claims_grow b words words' r.rows rows' grows claim_same v.workers v.claims s.claims;
        })
        (λ j u ne e t. record {
          workers = t.workers;
          opens = opens_else u (λ h. ne (r.apart j id u v k e at h own.1)) t.opens;
          knows = knows_grow b words words' r.rows rows' grows u.known t.knows;
          makes = makes_else u (λ n h. t.workers.bounded n h) (λ h. ne (r.apart j id u v m e at h ready.maker)) t.makes;
          claims = claims_grow b words words' r.rows rows' grows claim_same u.workers u.claims t.claims;
        });
    apart = apart_set views id v w at refl r.apart;
  }
