-- Looks in groups by their keys.
use Rattle.std.proofs.Common.{◌≡◌, ◌∙◌, ◌⊎◌, inl, inr, ℕ, zero, suc, ◌+◌, ◌<◌, ◌≤◌, Bool, true, false, cond, List, [], ◌∷◌, ◌++◌, Some, length, set, refl, sym, ap, subst, arith}
use Rattle.std.specs.Prelude.{◌==◌, slice_get, Contains, sum_by}
use Rattle.std.proofs.lemmas.Bool.{eqb-true, eq-eqb, false≢true}
use Rattle.std.proofs.lemmas.List.Elements.{Contains-append_left, Contains-append_right, Contains-push}
use Rattle.std.proofs.lemmas.List.Sums.{sum_by-cons}
use Rattle.std.proofs.lemmas.Option.{none-some}
use Rattle.fold_facts.specs.declared.fact.Fact.{Fact}
use Rattle.fold_facts.specs.Assigned.{fact_at, fact_of}
use Rattle.fold_facts.specs.Raising.{fact_room}
use Rattle.fold_facts.proofs.Lists.{some_is, set_same, set_other}
use Rattle.fold_sparse.specs.declared.look.Look.{Look}
use Rattle.fold_sparse.specs.Groups.{members}
use Rattle.fold_sparse.specs.Looks.{paired, keyed_from}
use Rattle.fold_sparse.proofs.Opening.{in_none, in_cons}

pub first_in : (x : ℕ) (xs : List ℕ) → Contains (x ∷ xs) x
first_in x xs = Contains-append_left (x ∷ []) xs x (Contains-push [] x)

pub rest_in : (x y : ℕ) (ys : List ℕ) → Contains ys x → Contains (y ∷ ys) x
rest_in x y ys h = Contains-append_right (y ∷ []) ys x h

members_append : (ps qs : List (ℕ × ℕ)) (key : ℕ) → members (ps ++ qs) key ≡ members ps key ++ members qs key
members_append [] qs key = refl
members_append (p ∷ ps) qs key = by (p.0 == key) (members_append ps qs key)
  where
    by : (b : Bool) → members (ps ++ qs) key ≡ members ps key ++ members qs key → cond b (p.1 ∷ members (ps ++ qs) key) (members (ps ++ qs) key) ≡ cond b (p.1 ∷ members ps key) (members ps key) ++ members qs key
    by true h = ap (λ l. p.1 ∷ l) h
    by false h = h

paired_in : (l : ℕ) (keys : List ℕ) (key : ℕ) → Contains keys key → Contains (members (paired l keys) key) l
paired_in l [] key h = absurd (in_none key h)
paired_in l (k ∷ ks) key h = by (paired_in l ks key) (k == key) refl (in_cons k ks key h)
  where
    by : (Contains ks key → Contains (members (paired l ks) key) l) → (b : Bool) → (k == key) ≡ b → (key ≡ k) ⊎ Contains ks key → Contains (cond b (l ∷ members (paired l ks) key) (members (paired l ks) key)) l
    by more true e c = first_in l (members (paired l ks) key)
    by more false e (inl same) = absurd (false≢true (sym e ∙ eq-eqb k key (sym same)))
    by more false e (inr rest) = more rest

-- A look is in the group of each of its keys.
pub key_in : (keys : Look → List ℕ) (from : ℕ) (looks : List Look) (l : ℕ) (look : Look) (key : ℕ) → slice_get looks l ≡ Some look → Contains (keys look) key → Contains (members (keyed_from keys from looks) key) (from + l)
key_in keys from [] l look key is h = absurd (none-some look is)
key_in keys from (k ∷ ks) zero look key is h =
    let z : from ≡ from + 0 = omega arith in
    subst (λ ms. Contains ms (from + 0)) (sym (members_append (paired from (keys k)) (keyed_from keys (suc from) ks) key))
    (Contains-append_left (members (paired from (keys k)) key) (members (keyed_from keys (suc from) ks) key) (from + 0)
    (subst (Contains (members (paired from (keys k)) key)) z (paired_in from (keys k) key (subst (λ x. Contains (keys x) key) (sym (some_is is)) h))))
key_in keys from (k ∷ ks) (suc l) look key is h =
    let s : suc from + l ≡ from + suc l = omega arith in
    subst (λ ms. Contains ms (from + suc l)) (sym (members_append (paired from (keys k)) (keyed_from keys (suc from) ks) key))
    (Contains-append_right (members (paired from (keys k)) key) (members (keyed_from keys (suc from) ks) key) (from + suc l)
    (subst (Contains (members (keyed_from keys (suc from) ks) key)) s (key_in keys (suc from) ks l look key is h)))

pub key_in_all : (keys : Look → List ℕ) (looks : List Look) (l : ℕ) (look : Look) (key : ℕ) → slice_get looks l ≡ Some look → Contains (keys look) key → Contains (members (keyed_from keys 0 looks) key) l
key_in_all keys looks l look key is h = let z : 0 + l ≡ l = omega arith in subst (Contains (members (keyed_from keys 0 looks) key)) z (key_in keys 0 looks l look key is h)

-- ---- how often the results of pairs can rise

abbrev pub weight : List Fact → List (ℕ × ℕ) → ℕ
weight facts pairs = sum_by (λ pair. fact_room (fact_of facts pair.0)) pairs

-- Where a fact rises, so many fall away as there are pairs with its result.
pub weight_falls : (facts : List Fact) (n : ℕ) (x : Fact) (pairs : List (ℕ × ℕ)) → n < length facts → fact_room x < fact_room (fact_of facts n)
    → weight (set facts n x) pairs + length (members pairs n) ≤ weight facts pairs
weight_falls facts n x [] less falls = omega arith
weight_falls facts n x (p ∷ ps) less falls =
    let one : weight (set facts n x) (p ∷ ps) ≡ fact_room (fact_of (set facts n x) p.0) + weight (set facts n x) ps = sum_by-cons (λ pair. fact_room (fact_of (set facts n x) pair.0)) p ps in
    let two : weight facts (p ∷ ps) ≡ fact_room (fact_of facts p.0) + weight facts ps = sum_by-cons (λ pair. fact_room (fact_of facts pair.0)) p ps in
    let rest : weight (set facts n x) ps + length (members ps n) ≤ weight facts ps = weight_falls facts n x ps less falls in
    by (p.0 == n) refl one two rest
  where
    by : (b : Bool) → (p.0 == n) ≡ b → weight (set facts n x) (p ∷ ps) ≡ fact_room (fact_of (set facts n x) p.0) + weight (set facts n x) ps → weight facts (p ∷ ps) ≡ fact_room (fact_of facts p.0) + weight facts ps
        → weight (set facts n x) ps + length (members ps n) ≤ weight facts ps → weight (set facts n x) (p ∷ ps) + length (cond b (p.1 ∷ members ps n) (members ps n)) ≤ weight facts (p ∷ ps)
    by true e one two rest =
        let same : p.0 ≡ n = eqb-true p.0 n e in
        let at : fact_of (set facts n x) p.0 ≡ x = ap (fact_of (set facts n x)) same ∙ ap fact_at (set_same facts n x less) in
        let new : fact_room (fact_of (set facts n x) p.0) ≡ fact_room x = ap fact_room at in
        let old : fact_room (fact_of facts p.0) ≡ fact_room (fact_of facts n) = ap (λ k. fact_room (fact_of facts k)) same in
        let long : length (p.1 ∷ members ps n) ≡ suc (length (members ps n)) = refl in
        omega (arith, one, two, rest, new, old, falls, long)
    by false e one two rest =
        let at : fact_of (set facts n x) p.0 ≡ fact_of facts p.0 = ap fact_at (set_other facts n p.0 x (λ same. false≢true (sym e ∙ eq-eqb p.0 n same))) in
        let new : fact_room (fact_of (set facts n x) p.0) ≡ fact_room (fact_of facts p.0) = ap fact_room at in
        omega (arith, one, two, rest, new)
