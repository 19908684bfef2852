-- Rows in a set.
use Rattle.std.proofs.Common.{◌≡◌, ℕ, ◌+◌, ◌<◌, ◌↔◌, ◌⊎◌, inl, ⊎_elim, Bool, true, false, List, [], ◌∷◌, ◌++◌, Contains, length, get_or, take, map, slice_get, set, bytes_eq, IsTrue, if◌then◌else◌, sym, ap, subst, ◌∙◌, refl, true≢false}
use Rattle.std.specs.Bool.{Decides}
use Rattle.std.specs.Prelude.{Some, None, option_map}
use Rattle.std.specs.List.{list_any}
use Rattle.std.specs.Cmp.Lexicographic.{bytes_decides}
use Rattle.std.proofs.lemmas.List.{take_more}
use Rattle.std.proofs.lemmas.List.Elements.{Contains-append_left, Contains-push, Contains-push_cases}
use Rattle.std.proofs.lemmas.Map.Made.{is_member-Decides}
use Rattle.std.proofs.lemmas.Option.{slice_get-map, get_or_from_slice_get, same_Some, none-some}
use Rattle.indexmap.specs.IndexSet.{insert_key}
use Rattle.indexmap.proofs.CallerLemmas.{Contains-insert_key}
use Rattle.demand_play.specs.Mirrors.Held.{IsSetOf}
use Rattle.demand_play.proofs.Places.{map_set}

pub same_rows : (a b : List ℕ) → Decides (bytes_eq a b) (a ≡ b)
same_rows a b = bytes_decides a b

pub found_row : (rows : List (List ℕ)) (row : List ℕ) → Decides (list_any (bytes_eq row) rows) (Contains rows row)
found_row rows row = is_member-Decides same_rows rows row

-- an inserted row is one of those before or the new one
inserted : (rows : List (List ℕ)) (new row : List ℕ) → Contains (insert_key bytes_eq rows new) row → Contains rows row ⊎ (new ≡ row)
inserted rows new row = by (list_any (bytes_eq new) rows)
  where
    by : (b : Bool) → Contains (if b then rows else rows ++ new ∷ []) row → Contains rows row ⊎ (new ≡ row)
    by true there = inl there
    by false there = Contains-push_cases rows new row there

stays : (rows : List (List ℕ)) (new row : List ℕ) → Contains rows row → Contains (insert_key bytes_eq rows new) row
stays rows new row there = by (list_any (bytes_eq new) rows)
  where
    by : (b : Bool) → Contains (if b then rows else rows ++ new ∷ []) row
    by true = there
    by false = Contains-append_left rows (new ∷ []) row there

-- one more row of a list is in the set
pub set_more : (found rows new : List (List ℕ)) (i : ℕ) (d : List ℕ) → i < length rows → IsSetOf (take i rows) found
    → new ≡ insert_key bytes_eq found (get_or rows i d) → IsSetOf (take (i + 1) rows) new
set_more found rows new i d within so_far is =
    let last = get_or rows i d in
    let longer : take (i + 1) rows ≡ take i rows ++ last ∷ [] = take_more rows i d within in
    record {
      same = λ row. (
        λ there. subst (λ (l : List (List ℕ)). Contains l row) (sym longer)
            (⊎_elim (λ old. Contains-append_left (take i rows) (last ∷ []) row ((so_far.same row).0 old))
            (λ own. subst (Contains (take i rows ++ last ∷ [])) own (Contains-push (take i rows) last))
            (inserted found last row (subst (λ (l : List (List ℕ)). Contains l row) is there))),
        λ there. subst (λ (l : List (List ℕ)). Contains l row) (sym is)
            (⊎_elim (λ old. stays found last row ((so_far.same row).1 old))
            (λ own. subst (Contains (insert_key bytes_eq found last)) own (Contains-insert_key bytes_eq (λ a b. (same_rows a b).0) found last))
            (Contains-push_cases (take i rows) last row (subst (λ (l : List (List ℕ)). Contains l row) longer there))),
      );
    }

-- a row that isn't there goes to the end
pub insert_key-absent : (rows : List (List ℕ)) (new : List ℕ) → ¬ Contains rows new → insert_key bytes_eq rows new ≡ rows ++ new ∷ []
insert_key-absent rows new absent = by (list_any (bytes_eq new) rows) refl
  where
    by : (b : Bool) → list_any (bytes_eq new) rows ≡ b → insert_key bytes_eq rows new ≡ rows ++ new ∷ []
    by true e = absurd (absent ((found_row rows new).0 e))
    by false e = ap (λ (c : Bool). if c then rows else rows ++ new ∷ []) e

pub set_none : (found : List (List ℕ)) → found ≡ [] → IsSetOf [] found
set_none found none = record { same = λ row. subst (λ (l : List (List ℕ)). Contains l row ↔ Contains [] row) (sym none) ((λ there. there), λ there. there) }

-- whether a row is among those that are kept for a ticket
module _ {X : Type 0} (keys : X → List (List ℕ)) (sets : List X) (ticket : ℕ) (row : List ℕ) where
  pub among_kept : (own : X) (answer : Bool) → Some own ≡ slice_get sets ticket → answer ≡ list_any (bytes_eq row) (keys own)
      → IsTrue answer ↔ ((rows : List (List ℕ)) × (slice_get (map keys sets) ticket ≡ Some rows) × Contains rows row)
  among_kept own answer there is =
      let at : slice_get (map keys sets) ticket ≡ Some (keys own) = slice_get-map keys sets ticket ∙ ap (option_map keys) (sym there) in (
        λ yes. (keys own, at, (found_row (keys own) row).0 (sym is ∙ yes)),
        λ asked. is ∙ (found_row (keys own) row).1 (subst (λ (l : List (List ℕ)). Contains l row) (same_Some asked.0 (keys own) (sym asked.1 ∙ at)) asked.2),
      )

  pub among_none : None ≡ slice_get sets ticket → IsTrue false ↔ ((rows : List (List ℕ)) × (slice_get (map keys sets) ticket ≡ Some rows) × Contains rows row)
  among_none past = (
    λ yes. absurd (true≢false (sym yes)),
    λ asked. absurd (none-some asked.0 (sym (slice_get-map keys sets ticket ∙ ap (option_map keys) (sym past)) ∙ asked.1)),
  )

-- what a claimed row needs is kept for its ticket
pub keeps_needs : {X : Type 0} (keys : X → List (List ℕ)) (needs : List ℕ → List (List ℕ)) (sets new : List X) (own : X) (rows listed : List (List ℕ)) (ticket : ℕ) (read row : List ℕ)
    → read ≡ get_or listed ticket read → listed ≡ rows → new ≡ set sets ticket own → IsSetOf (needs read) (keys own) → slice_get rows ticket ≡ Some row
    → (kept : List (List ℕ)) × (map keys new ≡ set (map keys sets) ticket kept) × IsSetOf (needs row) kept
keeps_needs keys needs sets new own rows listed ticket read row is all put asked there =
    let same : read ≡ row = is ∙ ap (λ (l : List (List ℕ)). get_or l ticket read) all ∙ get_or_from_slice_get rows ticket row read there in
    (keys own, ap (map keys) put ∙ map_set keys sets ticket own, subst (λ (r : List ℕ). IsSetOf (needs r) (keys own)) same asked)
