-- The edges of a graph that is made of rows.
use Rattle.std.proofs.Common.{◌≡◌, ◌∙◌, inl, inr, ℕ, zero, suc, ◌+◌, ◌-◌, ◌<◌, ◌≤◌, List, [], ◌∷◌, ◌++◌, Some, Contains, length, refl, sym, ap, subst, arith}
use Rattle.std.specs.Prelude.{slice_get, slice_index}
use Rattle.std.proofs.lemmas.Option.{none-some, slice_get-get_or}
use Rattle.std.proofs.lemmas.List.{length-append}
use Rattle.ir_types.proofs.ListSteps.{slice_get-append_first, slice_get-append_rest}
use Rattle.call_cycles.specs.declared.graph.Graph.{Graph}
use Rattle.call_cycles.specs.Edges.{IsGraph, IsNode, IsEdge}
use Rattle.call_cycles.specs.Mirrors.Numbering.{starts_of, ends_of}
use Rattle.call_cycles.proofs.Lists.{some_is, less_or, within}

assoc : {A : Type 0} (xs ys zs : List A) → (xs ++ ys) ++ zs ≡ xs ++ (ys ++ zs)
assoc [] ys zs = refl
assoc (x ∷ xs) ys zs = ap (λ l. x ∷ l) (assoc xs ys zs)

-- where each row begins, and where the last ends
abbrev pub bounds_of : ℕ → List (List ℕ) → List ℕ
bounds_of n [] = n ∷ []
bounds_of n (row ∷ rows) = n ∷ bounds_of (n + length row) rows

pub bounds_are : (n : ℕ) (rows : List (List ℕ)) → starts_of n rows ++ (n + length (ends_of rows)) ∷ [] ≡ bounds_of n rows
bounds_are n [] = ap (λ k. k ∷ []) (omega arith)
bounds_are n (row ∷ rows) = ap (λ l. n ∷ l) (ap (λ k. starts_of (n + length row) rows ++ k ∷ []) (omega (arith, length-append row (ends_of rows))) ∙ bounds_are (n + length row) rows)

bounds_long : (n : ℕ) (rows : List (List ℕ)) → length (bounds_of n rows) ≡ length rows + 1
bounds_long n [] = refl
bounds_long n (row ∷ rows) = omega (arith, bounds_long (n + length row) rows)

first_bound : (n : ℕ) (rows : List (List ℕ)) → slice_index (bounds_of n rows) 0 ≡ n
first_bound n [] = refl
first_bound n (row ∷ rows) = refl

bound_next : (n : ℕ) (row : List ℕ) (rows : List (List ℕ)) (u : ℕ) → slice_index (bounds_of n (row ∷ rows)) (suc u + 1) ≡ slice_index (bounds_of (n + length row) rows) (u + 1)
bound_next n row rows u = ap (slice_index (bounds_of n (row ∷ rows))) (moved u)
  where
    moved : (k : ℕ) → suc k + 1 ≡ suc (k + 1)
    moved k = omega arith

least_bound : (n : ℕ) (rows : List (List ℕ)) (u : ℕ) → u < length (bounds_of n rows) → n ≤ slice_index (bounds_of n rows) u
least_bound n [] zero h = omega arith
least_bound n [] (suc u) h = absurd (omega arith)
least_bound n (row ∷ rows) zero h = omega arith
least_bound n (row ∷ rows) (suc u) h = omega (arith, least_bound (n + length row) rows u (omega arith))

greatest_bound : (n : ℕ) (rows : List (List ℕ)) (u : ℕ) → slice_index (bounds_of n rows) u ≤ n + length (ends_of rows)
greatest_bound n [] zero = omega arith
greatest_bound n [] (suc u) = omega arith
greatest_bound n (row ∷ rows) zero = omega arith
greatest_bound n (row ∷ rows) (suc u) = omega (arith, greatest_bound (n + length row) rows u, length-append row (ends_of rows))

contains_of : (xs : List ℕ) (j v : ℕ) → slice_get xs j ≡ Some v → Contains xs v
contains_of [] j v h = absurd (none-some v h)
contains_of (x ∷ xs) zero v h = (0, omega arith, some_is h)
contains_of (x ∷ xs) (suc j) v h = let more = contains_of xs j v h in (suc more.0, omega (arith, more.1), more.2)

place_of : (xs : List ℕ) (v : ℕ) → Contains xs v → (j : ℕ) × (slice_get xs j ≡ Some v)
place_of xs v c = (c.0, slice_get-get_or xs c.0 v c.1 ∙ ap (λ x. Some x) c.2)

pub in_first : {A : Type 0} (xs ys : List A) (j : ℕ) (v : A) → j < length xs → slice_get (xs ++ ys) j ≡ Some v → slice_get xs j ≡ Some v
in_first [] ys j v less h = absurd (omega arith)
in_first (x ∷ xs) ys zero v less h = h
in_first (x ∷ xs) ys (suc j) v less h = in_first xs ys j v (omega arith) h

-- the row at a place has a number
pub record HasInRow (rows : List (List ℕ)) (u v : ℕ) : Type 0 where
  pub row : List ℕ
  pub stands : slice_get rows u ≡ Some row
  pub has : Contains row v

in_row : (n : ℕ) (rows : List (List ℕ)) (u e j v : ℕ) → u + 1 < length (bounds_of n rows) → n + j ≡ e → slice_index (bounds_of n rows) u ≤ e → e < slice_index (bounds_of n rows) (u + 1)
    → slice_get (ends_of rows) j ≡ Some v → HasInRow rows u v
in_row n [] u e j v long is from upto h = absurd (none-some v h)
in_row n (row ∷ rows) zero e j v long is from upto h =
    let less : j < length row = omega (arith, is, upto, first_bound (n + length row) rows) in
    record { row = row; stands = refl; has = contains_of row j v (in_first row (ends_of rows) j v less h) }
in_row n (row ∷ rows) (suc u) e j v long is from upto h =
    let there : u < length (bounds_of (n + length row) rows) = omega (arith, long) in
    let past : n + length row ≤ e = omega (arith, least_bound (n + length row) rows u there, from) in
    let left : (j - length row) + length row ≡ j = omega (arith, past, is) in
    let more = in_row (n + length row) rows u e (j - length row) v (omega (arith, long)) (omega (arith, is, past)) from (subst (λ k. e < k) (bound_next n row rows u) upto) (sym (slice_get-append_rest row (ends_of rows) (j - length row) j left) ∙ h) in
    record { row = more.row; stands = more.stands; has = more.has }

pub record IsPlaceOf (n : ℕ) (rows : List (List ℕ)) (u v : ℕ) : Type 0 where
  pub place : ℕ
  pub from : slice_index (bounds_of n rows) u ≤ n + place
  pub upto : n + place < slice_index (bounds_of n rows) (u + 1)
  pub is : slice_get (ends_of rows) place ≡ Some v

of_row : (n : ℕ) (rows : List (List ℕ)) (u v : ℕ) (row : List ℕ) → slice_get rows u ≡ Some row → Contains row v → IsPlaceOf n rows u v
of_row n [] u v row at has = absurd (none-some row at)
of_row n (r ∷ rows) zero v row at has =
    let place = place_of r v (subst (λ l. Contains l v) (sym (some_is at)) has) in
    record { place = place.0; from = omega arith; upto = omega (arith, within r place.0 v place.1, first_bound (n + length r) rows); is = slice_get-append_first r (ends_of rows) place.0 v place.1 }
of_row n (r ∷ rows) (suc u) v row at has =
    let more = of_row (n + length r) rows u v row at has in
    record {
      place = more.place + length r;
      from = omega (arith, more.from);
      upto = subst (λ k. n + (more.place + length r) < k) (sym (bound_next n r rows u)) (omega (arith, more.upto));
      is = slice_get-append_rest r (ends_of rows) more.place (more.place + length r) refl ∙ more.is;
    }

-- a number that stands somewhere stands in a row
anywhere : (rows : List (List ℕ)) (j v : ℕ) → slice_get (ends_of rows) j ≡ Some v → (u : ℕ) × HasInRow rows u v
anywhere [] j v h = absurd (none-some v h)
anywhere (row ∷ rows) j v h = elim (less_or j (length row)) [
  | inl less ↦ (0, record { row = row; stands = refl; has = contains_of row j v (in_first row (ends_of rows) j v less h) })
  | inr past ↦
      let more = anywhere rows (j - length row) v (sym (slice_get-append_rest row (ends_of rows) (j - length row) j (omega (arith, past))) ∙ h) in
      (suc more.0, record { row = more.1.row; stands = more.1.stands; has = more.1.has })
]

-- ---- the graph of rows

pub record IsMadeOf (g : Graph) (rows : List (List ℕ)) : Type 0 where
  pub starts : g.starts ≡ bounds_of 0 rows
  pub ends : g.ends ≡ ends_of rows

pub node_row : (g : Graph) (rows : List (List ℕ)) (u : ℕ) → IsMadeOf g rows → u < length rows → IsNode g u
node_row g rows u h less = omega (arith, ap length h.starts, bounds_long 0 rows, less)

pub edge_row : (g : Graph) (rows : List (List ℕ)) (u v : ℕ) → IsMadeOf g rows → u < length rows → IsEdge g u v → HasInRow rows u v
edge_row g rows u v h less e =
    in_row 0 rows u e.place e.place v (omega (arith, bounds_long 0 rows, less)) (omega arith) (subst (λ l. slice_index l u ≤ e.place) h.starts e.from)
    (subst (λ l. e.place < slice_index l (u + 1)) h.starts e.upto) (subst (λ l. slice_get l e.place ≡ Some v) h.ends e.to)

pub row_edge : (g : Graph) (rows : List (List ℕ)) (u v : ℕ) → IsMadeOf g rows → HasInRow rows u v → IsEdge g u v
row_edge g rows u v h has =
    let p = of_row 0 rows u v has.row has.stands has.has in
    let same : 0 + p.place ≡ p.place = omega arith in
    record {
      place = p.place;
      from = subst (λ l. slice_index l u ≤ p.place) (sym h.starts) (omega (arith, p.from));
      upto = subst (λ l. p.place < slice_index l (u + 1)) (sym h.starts) (omega (arith, p.upto));
      to = subst (λ l. slice_get l p.place ≡ Some v) (sym h.ends) p.is;
    }

pub graph_is : (g : Graph) (rows : List (List ℕ)) → IsMadeOf g rows → ((u v : ℕ) → HasInRow rows u v → v < length rows) → IsGraph g
graph_is g rows h small = record {
  ended = omega (arith, ap length h.starts, bounds_long 0 rows);
  within = λ u node. subst (λ l. slice_index l (u + 1) ≤ length g.ends) (sym h.starts) (omega (arith, greatest_bound 0 rows (u + 1), ap length h.ends));
  ends = λ place v at. let one = anywhere rows place v (subst (λ l. slice_get l place ≡ Some v) h.ends at) in node_row g rows v h (small one.0 v one.1);
}

-- ---- rows one after another

ends_append : (rows more : List (List ℕ)) → ends_of (rows ++ more) ≡ ends_of rows ++ ends_of more
ends_append [] more = refl
ends_append (row ∷ rows) more = ap (λ l. row ++ l) (ends_append rows more) ∙ sym (assoc row (ends_of rows) (ends_of more))

starts_append : (n m : ℕ) (rows more : List (List ℕ)) → n + length (ends_of rows) ≡ m → starts_of n (rows ++ more) ≡ starts_of n rows ++ starts_of m more
starts_append n m [] more e = ap (λ k. starts_of k more) (omega (arith, e))
starts_append n m (row ∷ rows) more e = ap (λ l. n ∷ l) (starts_append (n + length row) m rows more (omega (arith, e, length-append row (ends_of rows))))

pub rows_next : (rows more whole : List (List ℕ)) (starts next ends longer : List ℕ) → longer ≡ ends ++ ends_of rows → next ≡ starts ++ starts_of (length ends) rows
    → starts ++ starts_of (length ends) (rows ++ more) ≡ starts_of 0 whole → ends ++ ends_of (rows ++ more) ≡ ends_of whole
    → (next ++ starts_of (length longer) more ≡ starts_of 0 whole) × (longer ++ ends_of more ≡ ends_of whole)
rows_next rows more whole starts next ends longer e s h k = (
  ap (λ l. l ++ starts_of (length longer) more) s ∙ assoc starts (starts_of (length ends) rows) (starts_of (length longer) more)
      ∙ ap (λ l. starts ++ l) (sym (starts_append (length ends) (length longer) rows more (sym (ap length e ∙ length-append ends (ends_of rows))))) ∙ h,
  ap (λ l. l ++ ends_of more) e ∙ assoc ends (ends_of rows) (ends_of more) ∙ ap (λ l. ends ++ l) (sym (ends_append rows more)) ∙ k,
)
