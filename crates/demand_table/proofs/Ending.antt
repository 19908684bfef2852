-- The table is closed, with a pass that has met all others.
use Rattle.std.proofs.Common.{◌≡◌, ℕ, ◌+◌, ◌*◌, ◌<◌, ◌≤◌, List, length, sym, ap, subst, arith}
use Rattle.std.specs.Prelude.{Option}
use mathlib.Core.Option.{some}
use lib.ListN.{get_elem?}
use Rattle.atomic_table.specs.Seated.{TableId}
use Rattle.table_rule.specs.declared.view.View.{View}
use Rattle.table_rule.specs.Layout.{Has, total, word_of}
use Rattle.table_rule.specs.Rule.{Rule}
use Rattle.demand_play.specs.declared.entry.Closed.{Closed}
use Rattle.demand_play.specs.Entries.{AreSound}
use Rattle.demand_table.specs.Passes.{PassView, TableView}
use Rattle.demand_table.specs.Ties.{Ties}
use Rattle.demand_table.specs.Closing.{Reports, AreNumbered, IsReadable, AreWritten}
use Rattle.demand_table.proofs.Shown.{shown, board_shown, seen_is}
use Rattle.demand_table.proofs.Sounding.{readable, sound, reports}

module _ (b : ℕ) (words' words : List ℕ) (views : List View) (r' : Rule b words' views) (ew : words' ≡ words) (id : ℕ) (v : View) (at : get_elem? views id ≡ some v)
    (t t' : TableId) (p : PassView) (d : TableView) (ep : shown t v ≡ p) (ed : board_shown t' b ≡ d) (met' : (k : ℕ) → k < d.workers → Has p.seen.workers k)
    (found : List ℕ) (rows : List (Option ℕ)) (k : ℕ) (i : Ties t v found rows k)
    (found' tickets tickets' places places' : List ℕ) (ef : found' ≡ found) (et : tickets' ≡ tickets) (el : places' ≡ places) (n' : AreNumbered found' tickets places) where
  rule : Rule b words views
  rule = subst (λ (l : List ℕ). Rule b l views) ew r'

  met : (k : ℕ) → k < b → Has v.workers k
  met k lt =
      let e : b ≡ d.workers = ap (λ (z : TableView). z.workers) ed in
      subst (λ (z : View). Has z.workers k) (sym (seen_is t v p ep)) (met' k (omega (arith, lt, e)))

  numbered : AreNumbered found tickets' places'
  numbered = subst (λ (z : List ℕ × (List ℕ × List ℕ)). AreNumbered z.0 z.1.0 z.1.1) (λ j. (ef j, (sym et j, sym el j))) n'

  pub readable_all : (len : ℕ) → len ≡ t'.words → t'.words ≡ total b → (j x : ℕ) → get_elem? tickets' j ≡ some x → (x < 65600) × (word_of x 36 < len) × IsReadable words places' x
  readable_all len e1 e2 j x e =
      let a = readable b words views rule id v at met found i.finds tickets' places' numbered j x e in
      let lo = a.0 in
      let few : b ≤ 64 = rule.numbers.narrow in
      let total_ : t'.words ≡ 37 * (65536 + b) + 131073 = e2 in
      (omega (arith, lo, few), omega (arith, lo, e1, total_), a.1)

  module _ (entries all : List Closed) (same : length entries ≡ length tickets') (written : AreWritten (length tickets') words places' tickets' entries) (ea : all ≡ entries) where
    pub all_sound : AreSound all
    all_sound = subst AreSound (sym ea) (sound b words views rule id v at met found i.finds tickets' places' numbered entries same written)

    pub all_reported : Reports p.seen all
    all_reported = subst (λ (z : View × List Closed). Reports z.0 z.1) (λ j. (seen_is t v p ep j, sym ea j)) (reports b words views rule id v at met found i.finds tickets' places' numbered entries same written)
