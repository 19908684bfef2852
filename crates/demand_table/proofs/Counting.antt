-- The tickets of the published rows, one more at a time, and the words and entries that are copied.
use Rattle.std.proofs.Common.{◌≡◌, ◌≢◌, ℕ, suc, zero, ◌+◌, ◌%◌, ◌/◌, ◌<◌, ◌≤◌, ⊎_elim, List, [], ◌∷◌, ◌++◌, length, get_or, set, take, sym, refl, ap, ◌∙◌, subst, arith, length-set, length-append, get_or-set_same, get_or-set_other}
use Rattle.std.specs.Prelude.{Option}
use mathlib.Core.Option.{some, some-injective}
use mathlib.Core.Logic.{dite}
use native.Mathlib.Decide.{ℕ_discrete, dec_le}
use lib.ListN.{get_elem?}
use Rattle.atomic_table.proofs.Lists.{at_longer, at_last, at_set}
use Rattle.table_rule.specs.Layout.{word_of, span, content_at}
use Rattle.table_rule.proofs.Lists.{at_snoc, at_within, read_at}
use Rattle.demand_play.specs.declared.entry.Closed.{Closed}
use Rattle.demand_table.specs.Closing.{AreNumberedTo, IsPlace, IsWorker, IsWritten, IsReadable, AreWritten, IsCopied}
use Rattle.demand_table.proofs.Shown.{past_end}

pub number_skip : (n : ℕ) (found tickets places : List ℕ) → AreNumberedTo n found tickets places → get_or found n 0 ≡ 0 → AreNumberedTo (n + 1) found tickets places
number_skip n found tickets places c z = record {
  wide = c.wide;
  within = λ i x e. let w = c.within i x e in let lt = w.2 in (w.0, w.1, omega (arith, lt));
  all = λ x lt ne. c.all x (dite (ℕ_discrete x n) (λ e. absurd (ne (ap (λ (y : ℕ). get_or found y 0) e ∙ z))) (λ no_. omega (arith, lt, no_))) ne;
  rising = c.rising;
}

number_take : (n : ℕ) (found tickets places : List ℕ) → AreNumberedTo n found tickets places → n < length found → get_or found n 0 ≢ 0 → AreNumberedTo (n + 1) found (tickets ++ n ∷ []) (set places n (length tickets + 1))
number_take n found tickets places c in_ ne =
    let wide : length places ≡ length found = c.wide in
    record {
      wide = length-set places n (length tickets + 1) ∙ c.wide;
      within = λ i x e. ⊎_elim
          (λ h. let w = c.within i x h in let lt = w.2 in (w.0, get_or-set_other places n x (length tickets + 1) 0 (λ q. omega (arith, lt, q)) ∙ w.1, omega (arith, lt)))
          (λ h. subst (λ (z : ℕ). (get_or found z 0 ≢ 0) × (get_or (set places n (length tickets + 1)) z 0 ≡ i + 1) × (z < n + 1)) h.1
          (ne, get_or-set_same places n (length tickets + 1) 0 (omega (arith, wide, in_)) ∙ ap (λ (z : ℕ). z + 1) (sym h.0), omega arith))
          (at_snoc tickets n x i e);
      all = λ x lt ne'. dite (ℕ_discrete x n)
          (λ e. (length tickets, subst (λ (z : ℕ). get_elem? (tickets ++ n ∷ []) (length tickets) ≡ some z) (sym e) (at_last tickets n (length tickets) refl)))
          (λ no_. let a = c.all x (omega (arith, lt, no_)) ne' in (a.0, at_longer tickets (n ∷ []) a.0 x a.1));
      rising = λ i j x y lt ei ej. ⊎_elim
          (λ hi. ⊎_elim
          (λ hj. c.rising i j x y lt hi hj)
          (λ hj. let w = (c.within i x hi).2 in let q : n ≡ y = hj.1 in omega (arith, w, q))
          (at_snoc tickets n y j ej))
          (λ hi. ⊎_elim
          (λ hj. let a = at_within tickets j y hj in let q : i ≡ length tickets = hi.0 in absurd (omega (arith, a, q, lt)))
          (λ hj. let q : i ≡ length tickets = hi.0 in let t : j ≡ length tickets = hj.0 in absurd (omega (arith, q, t, lt)))
          (at_snoc tickets n y j ej))
          (at_snoc tickets n x i ei);
    }

pub number_push : (n : ℕ) (found tickets places more : List ℕ) (last : ℕ) → AreNumberedTo n found tickets places → n < length found → get_or found n 0 ≢ 0 → more ≡ tickets ++ n ∷ [] → last ≡ length more → AreNumberedTo (n + 1) found more (set places n last)
number_push n found tickets places more last c in_ ne em el =
    let count : length tickets + 1 ≡ last = sym (length-append tickets (n ∷ [])) ∙ (ap (λ (l : List ℕ). length l) (sym em) ∙ sym el) in
    subst (λ (z : List ℕ × ℕ). AreNumberedTo (n + 1) found z.0 (set places n z.1)) (λ i. (sym em i, count i)) (number_take n found tickets places c in_ ne)

pub number_all : (n : ℕ) (found tickets places : List ℕ) → AreNumberedTo n found tickets places → length found ≤ n → AreNumberedTo (length found) found tickets places
number_all n found tickets places c le = record {
  wide = c.wide;
  within = λ i x e. let w = c.within i x e in (w.0, w.1, dite (dec_le (length found) x) (λ past. absurd (w.0 (past_end found x past))) (λ no_. omega (arith, no_)));
  all = λ x lt ne. c.all x (omega (arith, lt, le)) ne;
  rising = c.rising;
}

-- the words of a row
pub copied_more : (n at a : ℕ) (words kept : List ℕ) → IsCopied n words at kept → n < 34 → get_elem? words (at + n + 1) ≡ some a → IsCopied (n + 1) words at (set kept n a)
copied_more n at a words kept c lt e =
    let wide : length kept ≡ 34 = c.0 in
    let place : at + n + 1 ≡ at + 1 + n = omega arith in (
      length-set kept n a ∙ c.0,
      λ j up. dite (ℕ_discrete j n)
          (λ same. subst (λ (z : ℕ). get_or (set kept n a) z 0 ≡ get_or words (at + 1 + z) 0) (sym same) (get_or-set_same kept n a 0 (omega (arith, wide, lt)) ∙ (sym (read_at words (at + n + 1) a e) ∙ ap (λ (z : ℕ). get_or words z 0) place)))
          (λ ne. get_or-set_other kept n j a 0 ne ∙ c.1 j (omega (arith, up, ne))),
    )

take_span : (n : ℕ) (kept words : List ℕ) (p : ℕ) → n ≤ length kept → ((j : ℕ) → j < n → get_or kept j 0 ≡ get_or words (p + j) 0) → take n kept ≡ span words p n
take_span zero kept words p le h = refl
take_span (suc n) [] words p le h = absurd (omega (arith, le))
take_span (suc n) (x ∷ xs) words p le h =
    let here : p + 0 ≡ p = omega arith in
    let first : x ≡ get_or words p 0 = h 0 (omega arith) ∙ ap (λ (z : ℕ). get_or words z 0) here in
    let rest = take_span n xs words (p + 1) (omega (arith, le)) (λ j lt. let next : p + suc j ≡ p + 1 + j = omega arith in h (suc j) (omega (arith, lt)) ∙ ap (λ (z : ℕ). get_or words z 0) next) in
    λ i. first i ∷ rest i

pub row_copied : (n len at head : ℕ) (words kept row : List ℕ) → IsCopied n words at kept → get_elem? words at ≡ some head → len ≡ head % 64 → n ≡ len → len ≤ 34 → row ≡ take len kept → row ≡ content_at words at
row_copied n len at head words kept row c e is same few er =
    let wide : length kept ≡ 34 = c.0 in
    let h : head ≡ get_or words at 0 = sym (read_at words at head e) in
    er ∙ (take_span len kept words (at + 1) (omega (arith, wide, few)) (λ j lt. c.1 j (omega (arith, lt, same))) ∙ ap (λ (m : ℕ). span words (at + 1) m) (is ∙ ap (λ (z : ℕ). z % 64) h))

-- an entry, read off the words
pub word_is : (l : List ℕ) (q n x j : ℕ) → get_elem? l q ≡ some n → word_of x j ≡ q → get_or l (word_of x j) 0 ≡ n
word_is l q n x j e is = ap (λ (z : ℕ). get_or l z 0) is ∙ read_at l q n e

pub entry_is : (words places : List ℕ) (x origin claim : ℕ) (row : List ℕ) (at : ℕ) (place worker : Option ℕ) → at ≡ word_of x 0 → row ≡ content_at words at → get_or words (word_of x 35) 0 ≡ origin → get_or words (word_of x 36) 0 ≡ claim → IsPlace places (origin / 64) place → IsWorker claim worker
    → IsWritten words places x record { row = row; maker = origin % 64; parent = place; claimer = worker }
entry_is words places x origin claim row at place worker ea er eo ec p w = record {
  row = er ∙ ap (λ (z : ℕ). content_at words z) ea;
  maker = ap (λ (z : ℕ). z % 64) (sym eo);
  parent = subst (λ (z : ℕ). IsPlace places (z / 64) place) (sym eo) p;
  claimer = subst (λ (z : ℕ). IsWorker z worker) (sym ec) w;
}

pub near_is : (words places : List ℕ) (x origin : ℕ) → IsReadable words places x → get_or words (word_of x 35) 0 ≡ origin → (y : ℕ) → origin / 64 ≡ y + 1 → (y < 65600) × (y < length places) × (0 < get_or places y 0)
near_is words places x origin r e = subst (λ (z : ℕ). (y : ℕ) → z / 64 ≡ y + 1 → (y < 65600) × (y < length places) × (0 < get_or places y 0)) e r.near

pub write_one : (n y : ℕ) (words places tickets : List ℕ) (entries : List Closed) (f : Closed) → AreWritten n words places tickets entries → get_elem? tickets n ≡ some y → IsWritten words places y f → AreWritten (n + 1) words places tickets (set entries n f)
write_one n y words places tickets entries f all here new i x e lt en ee = ⊎_elim
    (λ h. subst (λ (z : Closed). IsWritten words places x z) h.1 (subst (λ (z : ℕ). IsWritten words places z f) (some-injective y x (sym here ∙ subst (λ (z : ℕ). get_elem? tickets z ≡ some x) h.0 en)) new))
    (λ h. all i x e (let ne = h.0 in omega (arith, ne, lt)) en h.1)
    (at_set entries n i f e ee)
