-- The words of a closed table give sound entries.
use Rattle.std.proofs.Common.{◌≡◌, ◌≢◌, ℕ, suc, zero, ◌+◌, ◌*◌, ◌-◌, ◌%◌, ◌/◌, ◌<◌, ◌≤◌, ⊎_elim, true, is_none, slice_get, List, [], ◌∷◌, length, get_or, sym, refl, ap, ◌∙◌, subst, arith, ◌⊎◌, inl, inr}
use Rattle.std.specs.Prelude.{Option, Some, None, IfSome, option_and_then}
use mathlib.Core.Option.{some, some-injective, some-ne-none}
use mathlib.Core.Logic.{dite}
use native.Mathlib.Decide.{ℕ_discrete, dec_le}
use lib.ListN.{get_elem?}
use Rattle.table_rule.specs.declared.view.View.{View}
use Rattle.table_rule.specs.Layout.{Has, word_of, span, content, generation, named, probe}
use Rattle.table_rule.specs.Rule.{Rule, Keeps, IsPublished, IsFrom}
use Rattle.table_rule.specs.Tells.{KnowsRow}
use Rattle.table_rule.proofs.Lists.{at_within, at_some, at_get}
use Rattle.demand_play.specs.declared.entry.Closed.{Closed}
use Rattle.demand_play.specs.Entries.{AreSound, is_of_generation, parent_entry, holds_of}
use Rattle.demand_table.specs.Closing.{IsParent, IsEntryOf, Reports, AreNumbered, IsWritten, IsReadable, AreWritten}
use Rattle.demand_table.specs.Ties.{Finds}
use Rattle.demand_table.proofs.Tied.{same_some, some_not_none}
use Rattle.demand_table.proofs.Shown.{past_end}
use Rattle.demand_table.proofs.Filling.{span_row}

module _ {A : Type 0} where
  get_at : (l : List A) (i : ℕ) (d : A) → i < length l → get_elem? l i ≡ some (get_or l i d)
  get_at [] i d lt = absurd (omega (arith, lt))
  get_at (x ∷ xs) zero d lt = refl
  get_at (x ∷ xs) (suc i) d lt = get_at xs i d (omega (arith, lt))

  got_at : (l : List A) (i : ℕ) (a : A) → get_elem? l i ≡ some a → slice_get l i ≡ Some a
  got_at [] i a e = absurd (some-ne-none a (sym e))
  got_at (x ∷ xs) zero a e = ap Some (some-injective x a e)
  got_at (x ∷ xs) (suc i) a e = got_at xs i a e

present : (o : Option ℕ) → (o ≡ None) ⊎ ((x : ℕ) × (o ≡ Some x))
present None = inl refl
present (Some x) = inr (x, refl)

-- the two halves of an origin word
low_half : (o m n : ℕ) → m < 64 → o ≡ m + 64 * n → (o % 64 ≡ m) × (o / 64 ≡ n)
low_half o m n lt e = (omega (arith, lt, e), omega (arith, lt, e))

module _ (b : ℕ) (words : List ℕ) (views : List View) (r : Rule b words views) (id : ℕ) (v : View) (at : get_elem? views id ≡ some v) (met : (k : ℕ) → k < b → Has v.workers k)
    (found : List ℕ) (f : Finds v.limit v.known found) where
  keeps : Keeps b words r.rows v
  keeps = r.each id v at

  few : b ≤ 64
  few = r.numbers.narrow

  -- a row is published exactly where its slot is known
  slot_known : (x p : ℕ) → IsPublished r.rows x p → get_or found x 0 ≢ 0
  slot_known x p pub_ =
      let g = r.origins.origin x p pub_ in
      let made = keeps.makes.made x p g.0 g.1 pub_ g.2.word (met g.0 g.2.maker) in
      let m = (keeps.makes.makes x g.0 g.1 made).2 in
      let s = r.numbers.slot x m.0 m.1 in
      f.all m.0 x s.0 s.1 m.2

  published_of : (x : ℕ) → get_or found x 0 ≢ 0 → (p : ℕ) × IsPublished r.rows x p
  published_of x ne =
      let s = f.slot x ne in
      let k = keeps.knows (get_or found x 0) (x + 1) s.1 in
      (get_or found x 0, r.numbers.named (get_or found x 0) x (omega (arith, ne)) s.0 k.0)

  row_low : (x p : ℕ) → IsPublished r.rows x p → x < 65536 + b
  row_low x p e = r.numbers.below x p e

  -- published rows with the same words are one
  one_content : (x y p q : ℕ) → IsPublished r.rows x p → IsPublished r.rows y q → content words x ≡ content words y → x ≡ y
  one_content x y p q px py same =
      let cx = r.chains.chain x p px in
      let cy = r.chains.chain y q py in
      dite (ℕ_discrete cx.0 cy.0)
      (λ e.
      let pq : p ≡ q = cx.1 ∙ (ap (λ (i : ℕ). probe (content words x) i) e ∙ (ap (λ (c : List ℕ). probe c cy.0) same ∙ sym cy.1)) in
      let a : get_or words p 0 ≡ x + 1 = (r.numbers.slot x p px).2 in
      let c : get_or words q 0 ≡ y + 1 = (r.numbers.slot y q py).2 in
      let ac : x + 1 ≡ y + 1 = sym a ∙ (ap (λ (i : ℕ). get_or words i 0) pq ∙ c) in
      omega (arith, ac))
      (λ no_. dite (dec_le cx.0 cy.0)
      (λ le.
      let h = cy.2 cx.0 (omega (arith, le, no_)) in
      let there : IsPublished r.rows h.0 p = subst (λ (i : ℕ). IsPublished r.rows h.0 i) (ap (λ (c : List ℕ). probe c cx.0) (sym same) ∙ sym cx.1) h.1 in
      let hx : h.0 ≡ x = one_at h.0 x p there px in
      absurd (h.2 (ap (content words) hx ∙ same)))
      (λ gt.
      let h = cx.2 cy.0 (omega (arith, gt)) in
      let there : IsPublished r.rows h.0 q = subst (λ (i : ℕ). IsPublished r.rows h.0 i) (ap (λ (c : List ℕ). probe c cy.0) same ∙ sym cy.1) h.1 in
      let hy : h.0 ≡ y = one_at h.0 y q there py in
      absurd (h.2 (ap (content words) hy ∙ sym same))))
    where
      one_at : (x y p : ℕ) → IsPublished r.rows x p → IsPublished r.rows y p → x ≡ y
      one_at x y p px py =
          let a : get_or words p 0 ≡ x + 1 = (r.numbers.slot x p px).2 in
          let c : get_or words p 0 ≡ y + 1 = (r.numbers.slot y p py).2 in
          omega (arith, a, c)

  module _ (tickets places : List ℕ) (n : AreNumbered found tickets places) where
    at_ticket : (x p : ℕ) → IsPublished r.rows x p → Has tickets x
    at_ticket x p e =
        let ne = slot_known x p e in
        n.all x (dite (dec_le (length found) x) (λ le. absurd (ne (past_end found x le))) (λ no_. omega (arith, no_))) ne

    published_at : (i x : ℕ) → get_elem? tickets i ≡ some x → (p : ℕ) × IsPublished r.rows x p
    published_at i x e = published_of x (n.within i x e).0

    -- the origin of a published row
    origin_at : (x p : ℕ) → IsPublished r.rows x p → (m : ℕ) × (parent : Option ℕ) × IsFrom b words x m parent × (get_or words (word_of x 35) 0 % 64 ≡ m) × (get_or words (word_of x 35) 0 / 64 ≡ named parent)
    origin_at x p e =
        let g = r.origins.origin x p e in
        let lt = g.2.maker in
        let le = few in
        let d = low_half (get_or words (word_of x 35) 0) g.0 (named g.1) (omega (arith, lt, le)) g.2.word in
        (g.0, g.1, g.2, d.0, d.1)

    pub readable : (i x : ℕ) → get_elem? tickets i ≡ some x → (x < 65536 + b) × IsReadable words places x
    readable i x e =
        let p = published_at i x e in
        let g = origin_at x p.0 p.1 in (
          row_low x p.0 p.1,
          record {
            short = r.chains.short x p.0 p.1;
            near = λ y is. near g.0 g.1 g.2 (sym g.4 ∙ is);
          },
        )
      where
        near : (m : ℕ) (parent : Option ℕ) → IsFrom b words x m parent → {y : ℕ} → named parent ≡ y + 1 → (y < 65600) × (y < length places) × (0 < get_or places y 0)
        near m None g {y} is = let z : 0 ≡ y + 1 = is in absurd (omega (arith, z))
        near m (Some z) g {y} is =
            let zy : z + 1 ≡ y + 1 = is in
            let same : z ≡ y = omega (arith, zy) in
            let u = g.under in
            let c = (r.claimed z m u.0 u.1).1 in
            let a = at_ticket z c.0 c.1 in
            let w = n.within a.0 z a.1 in
            let lt = u.0 in
            let le = few in
            let wide : length places ≡ length found = n.wide in
            let in_ = w.2 in
            let place : get_or places z 0 ≡ a.0 + 1 = w.1 in
            subst (λ (t : ℕ). (t < 65600) × (t < length places) × (0 < get_or places t 0)) same (omega (arith, lt, le), omega (arith, in_, wide), omega (arith, place))

    module _ (entries : List Closed) (same : length entries ≡ length tickets) (written : AreWritten (length tickets) words places tickets entries) where
      ticket_of : (i : ℕ) (e : Closed) → get_elem? entries i ≡ some e → (x : ℕ) × (get_elem? tickets i ≡ some x)
      ticket_of i e h = let lt = at_within entries i e h in at_some tickets i (omega (arith, lt, same))

      entry_of : (i x : ℕ) → get_elem? tickets i ≡ some x → (e : Closed) × (get_elem? entries i ≡ some e)
      entry_of i x h = let lt = at_within tickets i x h in at_some entries i (omega (arith, lt, same))

      read : (i x : ℕ) (e : Closed) → get_elem? tickets i ≡ some x → get_elem? entries i ≡ some e → IsWritten words places x e
      read i x e en ee = written i x e (at_within tickets i x en) en ee

      one_ticket : (i j x : ℕ) → get_elem? tickets i ≡ some x → get_elem? tickets j ≡ some x → i ≡ j
      one_ticket i j x ei ej = let a = (n.within i x ei).1 in let c = (n.within j x ej).1 in let ac : i + 1 ≡ j + 1 = sym a ∙ c in omega (arith, ac)

      -- an entry's maker and parent
      from : (i x : ℕ) (e : Closed) → get_elem? tickets i ≡ some x → get_elem? entries i ≡ some e → (parent : Option ℕ) × IsFrom b words x e.maker parent × IsParent tickets parent e.parent
      from i x e en ee =
          let p = published_at i x en in
          let g = origin_at x p.0 p.1 in
          let w = read i x e en ee in
          let m : g.0 ≡ e.maker = sym g.3 ∙ sym w.maker in
          let h : IsFrom b words x e.maker g.1 = subst (λ (k : ℕ). IsFrom b words x k g.1) m g.2 in
          (g.1, h, parent g.1 h g.4 w)
        where
          parent : (o : Option ℕ) → IsFrom b words x e.maker o → get_or words (word_of x 35) 0 / 64 ≡ named o → IsWritten words places x e → IsParent tickets o e.parent
          parent None h is w = w.parent.none is
          parent (Some z) h is w =
              let s = w.parent.some_ z is in
              let c = (r.claimed z e.maker h.under.0 h.under.1).1 in
              let a = at_ticket z c.0 c.1 in
              let place = (n.within a.0 z a.1).1 in
              let ay : a.0 + 1 ≡ s.0 + 1 = sym place ∙ s.2 in
              let same_ : a.0 ≡ s.0 = omega (arith, ay) in
              (s.0, s.1, subst (λ (t : ℕ). get_elem? tickets t ≡ some z) same_ a.1)

      claimer_is : (i x k : ℕ) (e : Closed) → get_elem? tickets i ≡ some x → get_elem? entries i ≡ some e → get_or words (word_of x 36) 0 ≡ k + 1 → e.claimer ≡ Some k
      claimer_is i x k e en ee is = (read i x e en ee).claimer.some_ k is

      -- an entry with a parent, or without one
      has_parent : (i x y : ℕ) (e : Closed) → get_elem? tickets i ≡ some x → get_elem? entries i ≡ some e → e.parent ≡ Some y → (z : ℕ) × (get_elem? tickets y ≡ some z) × (get_or words (word_of z 36) 0 ≡ e.maker + 1) × (generation words x ≡ generation words z + 1)
      has_parent i x y e en ee is = let g = from i x e en ee in split g.0 g.1 g.2
        where
          split : (o : Option ℕ) → IsFrom b words x e.maker o → IsParent tickets o e.parent → (z : ℕ) × (get_elem? tickets y ≡ some z) × (get_or words (word_of z 36) 0 ≡ e.maker + 1) × (generation words x ≡ generation words z + 1)
          split None h p = absurd (some_not_none y (sym is ∙ p))
          split (Some z) h p =
              let py : p.0 ≡ y = same_some p.0 y (sym p.1 ∙ is) in
              (z, subst (λ (t : ℕ). get_elem? tickets t ≡ some z) py p.2, h.under.1, h.under.2)

      no_parent : (i x : ℕ) (e : Closed) → get_elem? tickets i ≡ some x → get_elem? entries i ≡ some e → e.parent ≡ None → generation words x ≡ 0
      no_parent i x e en ee is = let g = from i x e en ee in split g.0 g.1 g.2
        where
          split : (o : Option ℕ) → IsFrom b words x e.maker o → IsParent tickets o e.parent → generation words x ≡ 0
          split None h p = h.under
          split (Some z) h p = absurd (some_not_none p.0 (sym p.1 ∙ is))

      of_generation : (g i x : ℕ) (e : Closed) → get_elem? tickets i ≡ some x → get_elem? entries i ≡ some e → generation words x ≡ g → is_of_generation entries g e ≡ true
      of_generation zero i x e en ee is = ⊎_elim
          (λ h. ap is_none h)
          (λ h. let u = has_parent i x h.0 e en ee h.1 in let up : generation words x ≡ generation words u.0 + 1 = u.3 in absurd (omega (arith, up, is)))
          (present e.parent)
      of_generation (suc g) i x e en ee is = ⊎_elim
          (λ h. let z : generation words x ≡ 0 = no_parent i x e en ee h in absurd (omega (arith, z, is)))
          (λ h.
          let u = has_parent i x h.0 e en ee h.1 in
          let up : generation words x ≡ generation words u.0 + 1 = u.3 in
          let c = entry_of h.0 u.0 u.1 in
          let found_ : parent_entry entries e ≡ Some c.0 = ap (option_and_then (slice_get entries)) h.1 ∙ got_at entries h.0 c.0 c.1 in
          ap (holds_of (is_of_generation entries g)) found_ ∙ of_generation g h.0 u.0 c.0 u.1 c.1 (omega (arith, up, is)))
          (present e.parent)

      pub sound : AreSound entries
      sound = record {
        distinct = λ i j d lt up rows.
            let ei = get_at entries i d (omega (arith, lt, up)) in
            let ej = get_at entries j d up in
            let x = ticket_of i _ ei in
            let y = ticket_of j _ ej in
            let p = published_at i x.0 x.1 in
            let q = published_at j y.0 y.1 in
            let xy = one_content x.0 y.0 p.0 q.0 p.1 q.1 (sym (read i x.0 _ x.1 ei).row ∙ (rows ∙ (read j y.0 _ y.1 ej).row)) in
            let ij = one_ticket i j y.0 (x.1 ∙ ap some xy) y.1 in
            omega (arith, lt, ij);
        claimed = λ i d lt.
            let e = get_or entries i d in
            let ee = get_at entries i d lt in
            let x = ticket_of i e ee in
            claimed_ i x.0 e x.1 ee e.parent refl;
        ends = λ i d lt.
            let e = get_or entries i d in
            let ee = get_at entries i d lt in
            let x = ticket_of i e ee in
            (generation words x.0, of_generation (generation words x.0) i x.0 e x.1 ee refl);
      }
        where
          claimed_ : (i x : ℕ) (e : Closed) → get_elem? tickets i ≡ some x → get_elem? entries i ≡ some e → (o : Option ℕ) → e.parent ≡ o → IfSome o (λ place. (parent : Closed) × (slice_get entries place ≡ Some parent) × (parent.claimer ≡ Some e.maker))
          claimed_ i x e en ee None is = tt
          claimed_ i x e en ee (Some y) is =
              let u = has_parent i x y e en ee is in
              let c = entry_of y u.0 u.1 in
              (c.0, got_at entries y c.0 c.1, claimer_is y u.0 e.maker c.0 u.1 c.1 u.2)

      content_known : (x : ℕ) (row : List ℕ) → KnowsRow v x row → content words x ≡ row
      content_known x row k =
          let head = (keeps.knows (word_of x 0) k.head.0 k.head.1).0 in
          let len : get_or words (word_of x 0) 0 % 64 ≡ length row = ap (λ (h : ℕ). h % 64) head ∙ k.head.2 in
          ap (λ (m : ℕ). span words (word_of x 0 + 1) m) len ∙ span_row words row (word_of x 0 + 1) (λ j lt.
          let place : word_of x 0 + 1 + j ≡ word_of x (j + 1) = omega arith in
          ap (λ (q : ℕ). get_or words q 0) place ∙ (keeps.knows (word_of x (j + 1)) (get_or row j 0) (k.each j (get_or row j 0) (at_get row j lt))).0)

      entry_is : (i x : ℕ) (e : Closed) → get_elem? tickets i ≡ some x → get_elem? entries i ≡ some e → IsEntryOf v tickets x e
      entry_is i x e en ee =
          let p = published_at i x en in
          let lo = row_low x p.0 p.1 in
          let g = from i x e en ee in
          let w = read i x e en ee in
          record {
            made = (g.0, keeps.makes.made x p.0 e.maker g.0 p.1 g.1.word (met e.maker g.1.maker), g.2);
            claimed = λ k. (
              λ is. claims x k lo e w is,
              λ h. claimer_is i x k e en ee (keeps.claims.claims x k h).1,
            );
            row = λ row k. w.row ∙ content_known x row k;
          }
        where
          claims : (x k : ℕ) → x < 65536 + b → (e : Closed) → IsWritten words places x e → e.claimer ≡ Some k → Has v.claims (x, k)
          claims x k lo e w is = dite (ℕ_discrete (get_or words (word_of x 36) 0) 0)
              (λ z. absurd (some_not_none k (sym is ∙ w.claimer.none z)))
              (λ ne.
              let c : ℕ = get_or words (word_of x 36) 0 - 1 in
              let up : get_or words (word_of x 36) 0 ≡ c + 1 = omega (arith, ne) in
              let ck : c ≡ k = same_some c k (sym (w.claimer.some_ c up) ∙ is) in
              let word : get_or words (word_of x 36) 0 ≡ k + 1 = up ∙ ap (λ (z : ℕ). z + 1) ck in
              keeps.claims.claimed x k lo word (met k (r.claimed x k lo word).0))

      pub reports : Reports v entries
      reports = record {
        tickets = tickets;
        same = sym same;
        rising = n.rising;
        each = entry_is;
        made = λ x m parent h. let t = keeps.makes.makes x m parent h in at_ticket x t.2.0 t.2.1;
        claimed = λ x k h. let t = keeps.claims.claims x k h in let c = (r.claimed x k t.0 t.1).1 in at_ticket x c.0 c.1;
      }
