-- Who makes a row, and what an insert needs of the rows at hand.
use Rattle.std.proofs.Common.{◌≡◌, ℕ, ◌+◌, ◌/◌, ◌<◌, ◌≤◌, Bool, true, false, true≢false, MatchBool, List, [], replicate, sym, refl, ap, ◌∙◌, subst, arith, ⊎_elim}
use Rattle.std.specs.Prelude.{Option, Some, None}
use mathlib.Core.Option.{some}
use Rattle.atomic_table.specs.Seated.{TableId}
use Rattle.table_rule.specs.declared.view.View.{View}
use Rattle.table_rule.specs.Layout.{Has, word_of}
use Rattle.table_rule.specs.Views.{Held, knows, opened}
use Rattle.table_rule.proofs.Lists.{has_none, has_cons}
use Rattle.demand_table.specs.declared.answers.Ticket.{Ticket}
use Rattle.demand_table.specs.Answers.{place_of}
use Rattle.demand_table.specs.Passes.{PassView, IsMaker, IsFull}
use Rattle.demand_table.specs.Seeking.{Later, IsBooked}
use Rattle.demand_table.specs.Ties.{Ties}
use Rattle.demand_table.proofs.Tied.{some_not_none, same_some}
use Rattle.demand_table.proofs.Seeking.{later_trans, later_knows, told_knows}
use Rattle.demand_table.proofs.Shown.{shown, seen_is}

pub booked_root : (t : TableId) (v : View) (p : PassView) (found : List ℕ) (rows : List (Option ℕ)) (k : ℕ) → shown t v ≡ p → Ties t v found rows k → (parent : Option Ticket) → ((x : Ticket) → parent ≡ Some x → ⊥) → IsBooked p.seen k 0 (place_of parent)
booked_root t v p found rows k e i (Some x) h = absurd (h x refl)
booked_root t v p found rows k e i None h = record {
  maker = subst (λ (z : View). Has z.workers k) (seen_is t v p e) i.works.own;
  few = i.works.few k i.works.own;
  low = omega arith;
  near = λ y is. absurd (some_not_none y (sym is));
  under = refl;
}

pub maker_root : (t : TableId) (v : View) (p : PassView) (found : List ℕ) (rows : List (Option ℕ)) (k : ℕ) → shown t v ≡ p → Ties t v found rows k → (parent : Option Ticket) → ((x : Ticket) → parent ≡ Some x → ⊥) → IsMaker p.seen (place_of parent) k
maker_root t v p found rows k e i (Some x) h = absurd (h x refl)
maker_root t v p found rows k e i None h = i.works.lead ∙ ap (λ (z : View). z.lead) (seen_is t v p e)

pub later_two : (v w u : View) (p q m n : ℕ) → w ≡ knows v p m → u ≡ knows w q n → Later v u × (u.made ≡ v.made)
later_two v w u p q m n e f = (later_trans v w u (later_knows v w p m e) (later_knows w u q n f), ap (λ (z : View). z.made) f ∙ ap (λ (z : View). z.made) e)

module _ (v w u : View) (q n k h : ℕ) (ticket : Ticket) (parent : Option Ticket) (is : parent ≡ Some ticket) (mine : Has v.claims (ticket.place, k)) where
  pub maker_child : IsMaker v (place_of parent) k
  maker_child = subst (λ (o : Option Ticket). IsMaker v (place_of o) k) (sym is) mine

  pub booked_child : w ≡ knows v q n → u ≡ knows w (word_of ticket.place 0) h → Has v.workers k → k < 64 → ticket.place < 65600 → h / 64 < 65600 → IsBooked u k (h / 64 + 1) (place_of parent)
  booked_child e f own few near low =
      let l = (later_two v w u q _ n h e f).0 in
      subst (λ (o : Option Ticket). IsBooked u k (h / 64 + 1) (place_of o)) (sym is) record {
        maker = subst (λ (z : List ℕ). Has z k) (sym l.workers) own;
        few = few;
        low = omega (arith, low);
        near = λ y s. subst (λ (z : ℕ). z < 65600) (same_some ticket.place y s) near;
        under = (h, subst (λ (z : List (ℕ × ℕ)). Has z (ticket.place, k)) (sym l.claims) mine, told_knows w u _ h f, refl);
      }

pub on_true : (A B : Type 0) (b : Bool) → MatchBool b A B → b ≡ true → A
on_true A B true h e = h
on_true A B false h e = absurd (true≢false (sym e))

pub on_false : (A B : Type 0) (b : Bool) → MatchBool b A B → b ≡ false → B
on_false A B false h e = h
on_false A B true h e = absurd (true≢false e)

-- a drawn number is past the rows, or a row at hand
pub drawn_full : (v w : View) (n m : ℕ) → v.held ≡ [] → w ≡ opened v n → m ≡ w.limit → m ≤ n → IsFull w
drawn_full v w n m none_ e is le =
    let low : (opened v n).limit ≤ n = subst (λ (z : View). z.limit ≤ n) e (omega (arith, is, le)) in
    subst (λ (z : View). IsFull z) (sym e) (
      (v.lead, n, replicate 36 0, (0, refl)),
      λ k x ws h. ⊎_elim
          (λ s. subst (λ (z : ℕ). v.limit ≤ z) (ap (λ (z : Held). z.1.0) s) low)
          (λ g. absurd (has_none _ (subst (λ (l : List Held). Has l (k, (x, ws))) none_ g)))
          (has_cons v.held (v.lead, (n, replicate 36 0)) (k, (x, ws)) h),
    )

pub drawn_ready : (v w : View) (n m k : ℕ) → w ≡ opened v n → k ≡ v.lead → m ≡ w.limit → n < m → (n < w.limit) × ((ws : List ℕ) × Has w.held (k, (n, ws)))
drawn_ready v w n m k e lead is lt = (omega (arith, is, lt), (replicate 36 0, subst (λ (z : View). Has z.held (k, (n, replicate 36 0))) (sym e) (0, λ i. some (sym lead i, (n, replicate 36 0)))))
