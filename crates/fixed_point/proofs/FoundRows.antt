-- One more row among the found ones.
use Rattle.std.proofs.Common.{◌≡◌, ℕ, ◌+◌, ◌<◌, Bool, true, false, List, [], ◌∷◌, ◌++◌, All, Contains, length, get_or, take, bytes_eq, if◌then◌else◌, sym, ap, subst, ◌∙◌, refl, append_assoc}
use Rattle.std.specs.List.{list_any}
use Rattle.std.proofs.lemmas.List.{append-nil, take_more}
use Rattle.std.proofs.lemmas.List.Elements.{All-more, All-append, All-weaker, All-nil, All-push, Contains-append_left, Contains-append_right, Contains-push}
use Rattle.indexmap.specs.IndexSet.{insert_key}
use Rattle.indexmap.proofs.CallerLemmas.{Contains-insert_key}
use Rattle.fixed_point.specs.Found.{Adds}
use Rattle.fixed_point.proofs.RowOrder.{same_rows}

-- no rows add nothing
pub adds_none : (old : List (List ℕ)) → Adds old [] old
adds_none old = record { more = []; kept = sym (append-nil old); added = All-nil (Contains []); all = All-nil (Contains old) }

-- a row that is there stays, and another goes to the end
insert_key-end : (keys : List (List ℕ)) (row : List ℕ) → (extra : List (List ℕ)) × (insert_key bytes_eq keys row ≡ keys ++ extra) × All (Contains (row ∷ [])) extra
insert_key-end keys row = by (list_any (bytes_eq row) keys) refl
  where
    by : (b : Bool) → list_any (bytes_eq row) keys ≡ b → (extra : List (List ℕ)) × (insert_key bytes_eq keys row ≡ keys ++ extra) × All (Contains (row ∷ [])) extra
    by true e = ([], ap (λ (c : Bool). if c then keys else keys ++ row ∷ []) e ∙ sym (append-nil keys), All-nil (Contains (row ∷ [])))
    by false e = (row ∷ [], ap (λ (c : Bool). if c then keys else keys ++ row ∷ []) e, All-push (Contains (row ∷ [])) [] row (All-nil (Contains (row ∷ []))) (Contains-push [] row))

-- one more row
pub adds_more : (old rows mid new : List (List ℕ)) (i : ℕ) (d : List ℕ) → i < length rows → Adds old (take i rows) mid → new ≡ insert_key bytes_eq mid (get_or rows i d) → Adds old (take (i + 1) rows) new
adds_more old rows mid new i d within adds is =
    let row = get_or rows i d in
    let last = insert_key-end mid row in
    let longer : take (i + 1) rows ≡ take i rows ++ row ∷ [] = take_more rows i d within in
    let whole : new ≡ mid ++ last.0 = is ∙ last.1 in
    let before : All (Contains (take (i + 1) rows)) adds.more =
    subst (λ (l : List (List ℕ)). All (Contains l) adds.more) (sym longer)
    (All-weaker (Contains (take i rows)) (Contains (take i rows ++ row ∷ [])) (Contains-append_left (take i rows) (row ∷ [])) adds.more adds.added) in
    let own : All (Contains (take (i + 1) rows)) last.0 =
    subst (λ (l : List (List ℕ)). All (Contains l) last.0) (sym longer)
    (All-weaker (Contains (row ∷ [])) (Contains (take i rows ++ row ∷ [])) (Contains-append_right (take i rows) (row ∷ [])) last.0 last.2) in
    let stays : All (Contains new) (take i rows) =
    subst (λ (l : List (List ℕ)). All (Contains l) (take i rows)) (sym whole)
    (All-weaker (Contains mid) (Contains (mid ++ last.0)) (Contains-append_left mid last.0) (take i rows) adds.all) in
    let there : Contains new row = subst (λ (l : List (List ℕ)). Contains l row) (sym is) (Contains-insert_key bytes_eq (λ a b. (same_rows a b).0) mid row) in
    record {
      more = adds.more ++ last.0;
      kept = whole ∙ ap (λ (l : List (List ℕ)). l ++ last.0) adds.kept ∙ append_assoc old adds.more last.0;
      added = All-append (Contains (take (i + 1) rows)) adds.more last.0 before own;
      all = All-more (Contains new) rows i d within stays there;
    }
