-- Rows of a plan, and places by rows.
use Rattle.std.proofs.Common.{◌≡◌, ◌≢◌, ◌∙◌, ℕ, ◌+◌, ◌<◌, ◌≤◌, Bool, true, false, cond, not, List, [], ◌∷◌, ◌++◌, length, get_or, drop, Some, None, AllPairs, bytes_eq, position, nat_lt, refl, ap, sym, subst, arith, append_assoc, if◌then◌else◌}
use Rattle.std.specs.List.{list_any, position_or_len}
use Rattle.std.proofs.lemmas.Bool.Decides.{nat_tests}
use Rattle.std.proofs.lemmas.List.{get_or_at, get_or_append_left, length-append, drop_more}
use Rattle.std.proofs.lemmas.List.Sums.{prefix_len-le-length}
use Rattle.std.proofs.lemmas.List.Folds.{Any-from_list_any}
use Rattle.std.proofs.lemmas.Slice.Eq.{bytes_eq-Decides}
use Rattle.straight_plan.specs.declared.cut.Cut.{Cut}
use Rattle.straight_plan.specs.declared.cut.Ask.{Ask}
use Rattle.straight_leave.specs.Places.{row_of, rows_of, has_row, place_in}

-- a row that is apart from those before it isn't there yet
apart_from_keys : (keys rest : List (List ℕ)) (row : List ℕ) → AllPairs (λ a b. a ≢ b) (keys ++ row ∷ rest) → list_any (bytes_eq row) keys ≡ false
apart_from_keys keys rest row apart = by (list_any (bytes_eq row) keys) refl
  where
    by : (b : Bool) → list_any (bytes_eq row) keys ≡ b → list_any (bytes_eq row) keys ≡ false
    by false e = e
    by true e =
        let found = Any-from_list_any (bytes_eq row) keys e in
        let same : row ≡ found.1 = (bytes_eq-Decides row found.1).0 found.4 in
        let here : get_or (keys ++ row ∷ rest) found.0 row ≡ row = get_or_append_left keys (row ∷ rest) row found.0 found.2 ∙ subst (λ r. get_or keys found.0 r ≡ r) (sym same) found.3 in
        let there : get_or (keys ++ row ∷ rest) (length keys) row ≡ row = get_or_at keys row rest row (length keys) refl in
        absurd (apart found.0 (length keys) row found.2 (omega (arith, length-append keys (row ∷ rest))) (here ∙ sym there))

pub inserted : (plan : List Cut) (k : ℕ) (cut : Cut) (keys new : List (List ℕ)) (row : List ℕ) → keys ++ rows_of (drop k plan) ≡ rows_of plan → k < length plan
    → cut ≡ get_or plan k cut → row ≡ row_of cut.ask → new ≡ (if list_any (bytes_eq row) keys then keys else keys ++ row ∷ []) → AllPairs (λ a b. a ≢ b) (rows_of plan)
    → new ++ rows_of (drop (k + 1) plan) ≡ rows_of plan
inserted plan k cut keys new row h within read is after apart =
    let next : drop k plan ≡ cut ∷ drop (k + 1) plan = drop_more plan k cut within ∙ ap (λ c. c ∷ drop (k + 1) plan) (sym read) in
    let split : keys ++ row ∷ rows_of (drop (k + 1) plan) ≡ rows_of plan = ap (λ r. keys ++ r ∷ rows_of (drop (k + 1) plan)) is ∙ ap (λ cs. keys ++ rows_of cs) (sym next) ∙ h in
    let absent = apart_from_keys keys (rows_of (drop (k + 1) plan)) row (subst (AllPairs (λ a b. a ≢ b)) (sym split) apart) in
    let grown : new ≡ keys ++ row ∷ [] = after ∙ ap (λ b. if b then keys else keys ++ row ∷ []) absent in
    ap (λ ks. ks ++ rows_of (drop (k + 1) plan)) grown ∙ append_assoc keys (row ∷ []) (rows_of (drop (k + 1) plan)) ∙ split

none_is_length : (n p : ℕ) → p ≤ n → cond (nat_lt p n) (Some p) None ≡ None → n ≡ p
none_is_length n p le none = by (nat_lt p n) refl
  where
    by : (b : Bool) → nat_lt p n ≡ b → n ≡ p
    by true e = absurd (some (ap (λ b. cond b (Some p) None) (sym e) ∙ none))
      where
        some : Some p ≡ None → ⊥
        some h = cc
    by false e = grind (arith, nat_tests)

pub place_where_none : (keys : List (List ℕ)) (ask : Ask) (n : ℕ) → n ≡ length keys → position (bytes_eq (row_of ask)) keys ≡ None → n ≡ place_in keys ask
place_where_none keys ask n len none = len ∙ by (has_row ask)
  where
    by : (b : Bool) → length keys ≡ (if b then position_or_len (bytes_eq (row_of ask)) keys else length keys)
    by true = none_is_length (length keys) (position_or_len (bytes_eq (row_of ask)) keys) (prefix_len-le-length (λ row. not (bytes_eq (row_of ask) row)) keys) none
    by false = refl
