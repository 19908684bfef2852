-- What passes keep when they meet.
use Rattle.std.proofs.Common.{◌≡◌, ◌≢◌, ℕ, zero, suc, ◌+◌, ◌*◌, ◌%◌, ◌<◌, ◌≤◌, min, List, [], ◌∷◌, ◌++◌, length, get_or, set, sym, refl, ap, ap₂, ◌∙◌, subst, ⊎_elim, arith, length-set, get_or-set_same, get_or-set_other}
use Rattle.std.specs.Prelude.{Option, Some, None}
use mathlib.Core.Option.{some, some-injective}
use mathlib.Core.Logic.{dite}
use native.Mathlib.Decide.{ℕ_discrete, dec_le}
use lib.ListN.{get_elem?}
use Rattle.atomic_table.specs.Seated.{TableId}
use Rattle.atomic_table.proofs.Lists.{set_here, set_else, at_longer}
use Rattle.table_rule.specs.declared.view.View.{View}
use Rattle.table_rule.specs.Layout.{Has, word_of}
use Rattle.table_rule.specs.Views.{both_of}
use Rattle.table_rule.specs.Tells.{KnowsRow, IsSane}
use Rattle.table_rule.proofs.Lists.{has_left, has_right, has_either, at_within, at_some}
use Rattle.table_rule.proofs.Seating.{min_left, min_right}
use Rattle.demand_table.specs.Passes.{PassView, IsClaimed}
use Rattle.demand_table.specs.Merging.{AreMerged, AreTogether}
use Rattle.demand_table.specs.Ties.{Finds, Holds, Works, Ties}
use Rattle.demand_table.proofs.Tied.{same_some, some_not_none}
use Rattle.demand_table.proofs.Shown.{past_end, shown}

pub merged_none : (were others : List ℕ) → AreMerged 0 were others were
merged_none were others = record { wide = refl; kept = λ t ne. refl; taken = λ t lt z. absurd (omega (arith, lt)); left = λ t le. refl }

pub merged_keep : (n : ℕ) (were others are : List ℕ) → AreMerged n were others are → get_or are n 0 ≢ 0 → AreMerged (n + 1) were others are
merged_keep n were others are h ne = record {
  wide = h.wide;
  kept = h.kept;
  taken = λ t lt z. dite (ℕ_discrete t n)
      (λ e. absurd (ne (h.left n (omega arith) ∙ (ap (λ (i : ℕ). get_or were i 0) (sym e) ∙ z))))
      (λ no_. h.taken t (omega (arith, lt, no_)) z);
  left = λ t le. h.left t (omega (arith, le));
}

pub merged_take : (n a : ℕ) (were others are : List ℕ) → AreMerged n were others are → get_or are n 0 ≡ 0 → n < length were → a ≡ get_or others n 0 → AreMerged (n + 1) were others (set are n a)
merged_take n a were others are h none_ lt is =
    let wide : length are ≡ length were = h.wide in
    record {
      wide = length-set are n a ∙ h.wide;
      kept = λ t ne. dite (ℕ_discrete t n)
          (λ e. absurd (ne (ap (λ (i : ℕ). get_or were i 0) e ∙ (sym (h.left n (omega arith)) ∙ none_))))
          (λ no_. get_or-set_other are n t a 0 no_ ∙ h.kept t ne);
      taken = λ t up z. dite (ℕ_discrete t n)
          (λ e. ap (λ (i : ℕ). get_or (set are n a) i 0) e ∙ (get_or-set_same are n a 0 (omega (arith, lt, wide)) ∙ (is ∙ ap (λ (i : ℕ). get_or others i 0) (sym e))))
          (λ no_. get_or-set_other are n t a 0 no_ ∙ h.taken t (omega (arith, up, no_)) z);
      left = λ t le. get_or-set_other are n t a 0 (λ e. omega (arith, le, e)) ∙ h.left t (omega (arith, le));
    }

pub together_none : (were others : List (Option ℕ)) → AreTogether 0 were others were
together_none were others = record { wide = refl; taken = λ k x lt e. absurd (omega (arith, lt)); kept = λ k lt e. refl; left = λ k le. refl }

pub together_keep : (n : ℕ) (were others are : List (Option ℕ)) → AreTogether n were others are → get_elem? others n ≡ some None → AreTogether (n + 1) were others are
together_keep n were others are h none_ = record {
  wide = h.wide;
  taken = λ k x lt e. dite (ℕ_discrete k n)
      (λ same. absurd (some_not_none x (some-injective (Some x) None (sym e ∙ (ap (λ (i : ℕ). get_elem? others i) same ∙ none_)))))
      (λ no_. h.taken k x (omega (arith, lt, no_)) e);
  kept = λ k lt e. dite (ℕ_discrete k n)
      (λ same. h.left k (omega (arith, same)))
      (λ no_. h.kept k (omega (arith, lt, no_)) e);
  left = λ k le. h.left k (omega (arith, le));
}

pub together_take : (n y : ℕ) (o : Option ℕ) (were others are : List (Option ℕ)) → AreTogether n were others are → get_elem? others n ≡ some (Some y) → o ≡ Some y → n < length were → AreTogether (n + 1) were others (set are n o)
together_take n y o were others are h here is lt =
    let wide : length are ≡ length were = h.wide in
    record {
      wide = length-set are n o ∙ h.wide;
      taken = λ k x up e. dite (ℕ_discrete k n)
          (λ same. subst (λ (i : ℕ). get_elem? (set are n o) i ≡ some (Some x)) (sym same) (set_here are n o (omega (arith, lt, wide)) ∙ (ap some is ∙ (sym here ∙ (ap (λ (i : ℕ). get_elem? others i) (sym same) ∙ e)))))
          (λ no_. set_else are n k o no_ ∙ h.taken k x (omega (arith, up, no_)) e);
      kept = λ k up e. dite (ℕ_discrete k n)
          (λ same. absurd (some_not_none y (some-injective (Some y) None (sym here ∙ (ap (λ (i : ℕ). get_elem? others i) (sym same) ∙ e)))))
          (λ no_. set_else are n k o no_ ∙ h.kept k (omega (arith, up, no_)) e);
      left = λ k le. set_else are n k o (λ e. omega (arith, le, e)) ∙ h.left k (omega (arith, le));
    }

module _ (t : TableId) (v w : View) (f f' f'' : List ℕ) (r r' r'' : List (Option ℕ)) (k k' : ℕ) (i : Ties t v f r k) (j : Ties t w f' r' k') (sane : IsSane (both_of v w)) where
  one_limit : w.limit ≡ v.limit
  one_limit = let a : t.words ≡ 37 * v.limit + 131073 = i.sizes.words in let b : t.words ≡ 37 * w.limit + 131073 = j.sizes.words in omega (arith, a, b)

  finds_met : AreMerged (length f') f f' f'' → Finds v.limit (v.known ++ w.known) f''
  finds_met m = record {
    wide = m.wide ∙ i.finds.wide;
    slot = λ x ne. dite (ℕ_discrete (get_or f x 0) 0)
        (λ z. dite (dec_le (length f') x)
        (λ le. absurd (ne (m.left x le ∙ z)))
        (λ no_.
        let e : get_or f'' x 0 ≡ get_or f' x 0 = m.taken x (omega (arith, no_)) z in
        let s = j.finds.slot x (λ g. ne (e ∙ g)) in
        subst (λ (p : ℕ). (p ≤ 131072) × Has (v.known ++ w.known) (p, x + 1)) (sym e) (s.0, has_right v.known w.known _ s.1)))
        (λ some_.
        let e : get_or f'' x 0 ≡ get_or f x 0 = m.kept x some_ in
        let s = i.finds.slot x some_ in
        subst (λ (p : ℕ). (p ≤ 131072) × Has (v.known ++ w.known) (p, x + 1)) (sym e) (s.0, has_left v.known w.known _ s.1));
    all = λ p x lo hi h. dite (ℕ_discrete (get_or f x 0) 0)
        (λ z. ⊎_elim
        (λ g. absurd (i.finds.all p x lo hi g z))
        (λ g.
        let ne = j.finds.all p x lo hi g in
        dite (dec_le (length f') x)
        (λ le. absurd (ne (past_end f' x le)))
        (λ no_ q. ne (sym (m.taken x (omega (arith, no_)) z) ∙ q)))
        (has_either v.known w.known (p, x + 1) h))
        (λ some_ q. some_ (sym (m.kept x some_) ∙ q));
  }

  module _ (m : AreTogether 64 r r' r'') where
    met_own : (l x : ℕ) → get_elem? r'' l ≡ some (Some x) → (ws : List ℕ) × Has (v.held ++ w.held) (l, (x, ws))
    met_own l x e =
        let lt : l < length r'' = at_within r'' l (Some x) e in
        let wide : length r'' ≡ length r = m.wide in
        let wide1 : length r ≡ 64 = i.holds.wide in
        let wide2 : length r' ≡ 64 = j.holds.wide in
        let at = at_some r' l (omega (arith, lt, wide, wide1, wide2)) in
        split at.0 at.1 (omega (arith, lt, wide, wide1))
      where
        split : (o : Option ℕ) → get_elem? r' l ≡ some o → l < 64 → (ws : List ℕ) × Has (v.held ++ w.held) (l, (x, ws))
        split None a lt = let h = i.holds.own l x (sym (m.kept l lt a) ∙ e) in (h.0, has_left v.held w.held _ h.1)
        split (Some y) a lt =
            let same : y ≡ x = same_some y x (some-injective (Some y) (Some x) (sym (m.taken l y lt a) ∙ e)) in
            let h = j.holds.own l x (a ∙ ap (λ (z : ℕ). some (Some z)) same) in
            (h.0, has_right v.held w.held _ h.1)

    met_left : (l x : ℕ) (ws : List ℕ) → Has v.held (l, (x, ws)) → get_elem? r'' l ≡ some (Some x)
    met_left l x ws h =
        let a = (i.holds.all l x ws h).0 in
        let lt : l < length r = at_within r l (Some x) a in
        let wide1 : length r ≡ 64 = i.holds.wide in
        let wide2 : length r' ≡ 64 = j.holds.wide in
        let at = at_some r' l (omega (arith, lt, wide1, wide2)) in
        split at.0 at.1 a (omega (arith, lt, wide1))
      where
        split : (o : Option ℕ) → get_elem? r' l ≡ some o → get_elem? r l ≡ some (Some x) → l < 64 → get_elem? r'' l ≡ some (Some x)
        split None b a lt = m.kept l lt b ∙ a
        split (Some y) b a lt =
            let g = j.holds.own l y b in
            let same : y ≡ x = sane.held l y x g.0 ws (has_right v.held w.held _ g.1) (has_left v.held w.held _ h) in
            m.taken l y lt b ∙ ap (λ (z : ℕ). some (Some z)) same

    holds_met : Holds (v.held ++ w.held) r''
    holds_met = record {
      wide = m.wide ∙ i.holds.wide;
      own = met_own;
      all = λ l x ws h. ⊎_elim
          (λ g. (met_left l x ws g, (i.holds.all l x ws g).1))
          (λ g.
          let a = j.holds.all l x ws g in
          let lt : l < length r' = at_within r' l (Some x) a.0 in
          let wide2 : length r' ≡ 64 = j.holds.wide in
          (m.taken l x (omega (arith, lt, wide2)) a.0, a.1))
          (has_either v.held w.held (l, (x, ws)) h);
      apart = λ l n x e g. let a = met_own l x e in let b = met_own n x g in sane.holder l n x a.0 b.0 a.1 b.1;
    }

  works_met : Works (both_of v w) (min k k')
  works_met = record {
    lead = ap₂ min i.works.lead j.works.lead;
    own = dite (dec_le k k')
        (λ le. subst (λ (z : ℕ). Has (v.workers ++ w.workers) z) (sym (min_left k k' le)) (has_left v.workers w.workers k i.works.own))
        (λ no_. subst (λ (z : ℕ). Has (v.workers ++ w.workers) z) (sym (min_right k k' (omega (arith, no_)))) (has_right v.workers w.workers k' j.works.own));
    few = λ l h. ⊎_elim (λ g. i.works.few l g) (λ g. j.works.few l g) (has_either v.workers w.workers l h);
    claims = λ x l h. ⊎_elim
        (λ g. let c = i.works.claims x l g in ((c.0.0, c.0.1, c.0.2, has_left v.known w.known _ c.0.3), has_left v.workers w.workers l c.1))
        (λ g. let c = j.works.claims x l g in ((c.0.0, c.0.1, c.0.2, has_right v.known w.known _ c.0.3), has_right v.workers w.workers l c.1))
        (has_either v.claims w.claims (x, l) h);
  }

  pub ties_met : AreMerged (length f') f f' f'' → AreTogether 64 r r' r'' → Ties t (both_of v w) f'' r'' (min k k')
  ties_met m n = record { sizes = i.sizes; finds = finds_met m; holds = holds_met n; works = works_met }

same_list : (l m : List ℕ) → length l ≡ length m → ((j a b : ℕ) → get_elem? l j ≡ some a → get_elem? m j ≡ some b → a ≡ b) → l ≡ m
same_list [] [] e h = refl
same_list [] (y ∷ ys) e h = absurd (omega (arith, e))
same_list (x ∷ xs) [] e h = absurd (omega (arith, e))
same_list (x ∷ xs) (y ∷ ys) e h =
    let here = h 0 x y refl refl in
    let rest = same_list xs ys (omega (arith, e)) (λ j a b p q. h (suc j) a b p q) in
    λ i. here i ∷ rest i

-- both know one row of a ticket
pub one_row : (v w : View) → IsSane (both_of v w) → (x : ℕ) (row other : List ℕ) → KnowsRow v x row → KnowsRow w x other → row ≡ other
one_row v w sane x row other a b =
    let heads : a.head.0 ≡ b.head.0 = sane.known (word_of x 0) a.head.0 b.head.0 (has_left v.known w.known _ a.head.1) (has_right v.known w.known _ b.head.1) in
    let lengths : length row ≡ length other = sym a.head.2 ∙ (ap (λ (h : ℕ). h % 64) heads ∙ b.head.2) in
    same_list row other lengths (λ j m n p q. sane.known (word_of x (j + 1)) m n (has_left v.known w.known _ (a.each j m p)) (has_right v.known w.known _ (b.each j n q)))

at_behind : {A : Type 0} (l m : List A) (n j : ℕ) (z : A) → n ≡ length l + j → get_elem? m j ≡ some z → get_elem? (l ++ m) n ≡ some z
at_behind [] m n j z is e = let same : n ≡ j = omega (arith, is) in ap (λ (i : ℕ). get_elem? m i) same ∙ e
at_behind (x ∷ xs) m zero j z is e = absurd (omega (arith, is))
at_behind (x ∷ xs) m (suc n) j z is e = at_behind xs m n j z (omega (arith, is)) e

-- no row is claimed by both
pub claimed_once : (v w : View) → IsSane (both_of v w) → (x : ℕ) → IsClaimed v x → IsClaimed w x → ⊥
claimed_once v w sane x a b =
    let lt : a.1.0 < length v.claims = at_within v.claims a.1.0 (x, a.0) a.1.1 in
    let e : a.1.0 ≡ length v.claims + b.1.0 = sane.claims a.1.0 (length v.claims + b.1.0) x a.0 b.0 (at_longer v.claims w.claims a.1.0 (x, a.0) a.1.1) (at_behind v.claims w.claims (length v.claims + b.1.0) b.1.0 (x, b.0) refl b.1.1) in
    omega (arith, lt, e)

pub one_table : (t t' table : TableId) (v w : View) (p q : PassView) → shown t v ≡ p → shown t' w ≡ q → p.table ≡ table → q.table ≡ table → t' ≡ t
one_table t t' table v w p q ep eq a b = ap (λ (z : PassView). z.table) eq ∙ (b ∙ sym (ap (λ (z : PassView). z.table) ep ∙ a))

pub met_invariant : {A : Type 0} (t t' : TableId) (b : View) (s : List A) (me : View × List A) (found : List ℕ) (rows : List (Option ℕ)) (k k' : ℕ) → t' ≡ t → me ≡ (b, s) → s ≡ [] → k' ≡ k → Ties t b found rows k → (me.1 ≡ []) × Ties t' me.0 found rows k'
met_invariant {A} t t' b s me found rows k k' et em es ek i = (ap (λ (z : View × List A). z.1) em ∙ es, subst (λ (z : TableId × (View × ℕ)). Ties z.0 z.1.0 found rows z.1.1) (λ j. (sym et j, (ap (λ (z : View × List A). z.0) (sym em) j, sym ek j))) i)

pub merged_as : (f f' g g' : List ℕ) → g ≡ f' → AreMerged (length g) f g g' → AreMerged (length f') f f' g'
merged_as f f' g g' e m = subst (λ (l : List ℕ). AreMerged (length l) f l g') e m

pub sane_as : {A : Type 0} (b : View) (s : List A) (me : View × List A) → me ≡ (b, s) → IsSane me.0 → IsSane b
sane_as {A} b s me e h = subst IsSane (ap (λ (z : View × List A). z.0) e) h
