-- A view learns, and nothing else changes.
use Rattle.std.proofs.Common.{◌≡◌, ℕ, ⊎_elim, List, [], ◌∷◌, ◌++◌, get_or, set, sym, refl, subst}
use mathlib.Core.Option.{some}
use lib.ListN.{get_elem?}
use Rattle.atomic_table.proofs.Lists.{set_again}
use Rattle.table_rule.specs.declared.view.View.{View}
use Rattle.table_rule.specs.Views.{knows, saw_empty}
use Rattle.table_rule.specs.Rule.{Status, IsFixed, Knows, Keeps, Rule}
use Rattle.table_rule.proofs.Lists.{has_only, has_later, has_either}
use Rattle.table_rule.proofs.Growing.{makes_more, each_set, apart_set}

pub knows_more : (b : ℕ) (words : List ℕ) (rows : List Status) (more known : List (ℕ × ℕ)) → Knows b words rows more → Knows b words rows known → Knows b words rows (more ++ known)
knows_more b words rows more known new old q n h = ⊎_elim (new q n) (old q n) (has_either more known (q, n) h)

pub knows_one : (b : ℕ) (words : List ℕ) (rows : List Status) (q n : ℕ) → get_or words q 0 ≡ n → IsFixed b rows q n → Knows b words rows ((q, n) ∷ [])
knows_one b words rows q n is fixed q' n' h = subst (λ (z : ℕ × ℕ). (get_or words z.0 0 ≡ z.1) × IsFixed b rows z.0 z.1) (has_only (q, n) (q', n') h) (is, fixed)

module _ (b : ℕ) (words : List ℕ) (views : List View) (r : Rule b words views) (id : ℕ) (v : View) (at : get_elem? views id ≡ some v) where
  -- the view becomes another with the same workers, and all else stays
  pub view_kept : (w : View) → w.workers ≡ v.workers → Keeps b words r.rows w → Rule b words (set views id w)
  view_kept w is new = record {
    rows = r.rows;
    order = r.order;
    numbers = r.numbers;
    chains = r.chains;
    origins = r.origins;
    claimed = r.claimed;
    each = each_set views id v w at (Keeps b words r.rows) (Keeps b words r.rows) r.each new (λ j u ne e k. k);
    apart = apart_set views id v w at is r.apart;
  }

  pub learned_kept : (q n : ℕ) → get_or words q 0 ≡ n → IsFixed b r.rows q n → Rule b words (set views id (knows v q n))
  learned_kept q n is fixed = let s = r.each id v at in view_kept (knows v q n) refl record {
    workers = s.workers;
    opens = s.opens;
    knows = knows_more b words r.rows ((q, n) ∷ []) v.known (knows_one b words r.rows q n is fixed) s.knows;
    makes = makes_more words r.rows v.workers v.known ((q, n) ∷ v.known) v.made (λ p m h. has_later v.known (q, n) (p, m) h) s.makes;
    claims = s.claims;
  }

  pub saw_kept : (p : ℕ) → Rule b words (set views id (saw_empty v p))
  saw_kept p = let s = r.each id v at in view_kept (saw_empty v p) refl record { workers = s.workers; opens = s.opens; knows = s.knows; makes = s.makes; claims = s.claims }

  pub unchanged : Rule b words (set views id v)
  unchanged = subst (λ (l : List View). Rule b words l) (sym (set_again views id v at)) r
