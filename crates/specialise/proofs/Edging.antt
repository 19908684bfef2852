-- The edges of a block, as they are added one by one.
use Rattle.std.proofs.Common.{◌≡◌, ◌∙◌, ℕ, zero, suc, ◌+◌, ◌<◌, ◌≤◌, Bool, true, false, cond, List, [], ◌∷◌, ◌++◌, None, Some, inl, inr, length, map, take, refl, sym, ap, subst, arith, add-one, length-append}
use Rattle.std.specs.Prelude.{◌==◌, ◌&&◌, ◌||◌, slice_get, if◌then◌else◌}
use Rattle.std.specs.Option.{IfSome}
use Rattle.std.specs.List.{filter}
use Rattle.std.proofs.lemmas.Bool.{eqb-true, eq-eqb}
use Rattle.std.proofs.lemmas.List.{length-take-le}
use Rattle.fold_facts.specs.declared.edge.Edge.{Edge}
use Rattle.fold_facts.specs.Assigned.{Assigned, edges_at}
use Rattle.fold_facts.proofs.Lists.{is_or_not}
use Rattle.call_cycles.proofs.Lists.{less_or}
use Rattle.interface.specs.Masks.{is_chosen}
use Rattle.specialise.specs.Leaving.{edges_to}
use Rattle.specialise.specs.declared.counts.Counts.{Counts}
use Rattle.specialise.specs.declared.edges.ReachedEdges.{ReachedEdges}
use Rattle.specialise.specs.Mirrors.Edges.{counted, has_edge}

and_none : (r : Bool) → (r && false) ≡ false
and_none true = refl
and_none false = refl

or_none : (r : Bool) → (r || false) ≡ r
or_none true = refl
or_none false = refl

apart : (m n : ℕ) → (m ≡ n → ⊥) → (m == n) ≡ false
apart m n other = by (m == n) refl
  where
    by : (b : Bool) → (m == n) ≡ b → (m == n) ≡ false
    by true e = absurd (other (eqb-true m n e))
    by false e = e

same_suc : (m n : ℕ) → (suc m == suc n) ≡ (m == n)
same_suc m n = elim (is_or_not m n) [
  | inl e ↦ eq-eqb (suc m) (suc n) (ap suc e) ∙ sym (eq-eqb m n e)
  | inr other ↦ apart (suc m) (suc n) (λ e. other (omega (arith, e))) ∙ sym (apart m n other)
]

pub chosen_push : (xs : List Bool) (r : Bool) (j : ℕ) → is_chosen (xs ++ r ∷ []) j ≡ ((r && (length xs == j)) || is_chosen xs j)
chosen_push [] true zero = refl
chosen_push [] false zero = refl
chosen_push [] r (suc j) = sym (ap (λ b. (r && b) || false) (apart 0 (suc j) (λ e. omega (arith, e))) ∙ ap (λ b. b || false) (and_none r))
chosen_push (x ∷ xs) r zero = sym (ap (λ b. (r && b) || x) (apart (suc (length xs)) 0 (λ e. omega (arith, e))) ∙ ap (λ b. b || x) (and_none r))
chosen_push (x ∷ xs) r (suc j) = chosen_push xs r j ∙ ap (λ b. (r && b) || is_chosen xs j) (sym (same_suc (length xs) j))

-- of these edges, which go to a block, and whether each is reached
abbrev pub flags_to : List Edge → ℕ → List Bool
flags_to edges to = map (λ edge. edge.reached) (filter (λ edge. edge.to == to) edges)

pub flags_push : (edges : List Edge) (e : Edge) (to : ℕ) → flags_to (edges ++ e ∷ []) to ≡ flags_to edges to ++ (if e.to == to then e.reached ∷ [] else [])
flags_push [] e to = by (e.to == to)
  where
    by : (b : Bool) → map (λ (edge : Edge). edge.reached) (cond b (e ∷ []) []) ≡ (if b then e.reached ∷ [] else [])
    by true = refl
    by false = refl
flags_push (x ∷ xs) e to = by (x.to == to) (flags_push xs e to)
  where
    by : (b : Bool) → flags_to (xs ++ e ∷ []) to ≡ flags_to xs to ++ (if e.to == to then e.reached ∷ [] else [])
        → map (λ (edge : Edge). edge.reached) (cond b (x ∷ filter (λ edge. edge.to == to) (xs ++ e ∷ [])) (filter (λ edge. edge.to == to) (xs ++ e ∷ [])))
        ≡ map (λ (edge : Edge). edge.reached) (cond b (x ∷ filter (λ edge. edge.to == to) xs) (filter (λ edge. edge.to == to) xs)) ++ (if e.to == to then e.reached ∷ [] else [])
    by true h = ap (λ l. x.reached ∷ l) h
    by false h = h

flags_long : (edges : List Edge) (to : ℕ) → length (flags_to edges to) ≤ length edges
flags_long [] to = omega arith
flags_long (x ∷ xs) to = by (x.to == to) (flags_long xs to)
  where
    by : (b : Bool) → length (flags_to xs to) ≤ length xs → length (map (λ (edge : Edge). edge.reached) (cond b (x ∷ filter (λ edge. edge.to == to) xs) (filter (λ edge. edge.to == to) xs))) ≤ suc (length xs)
    by true h = omega (arith, h)
    by false h = omega (arith, h)

append_none : {A : Type 0} (xs : List A) → xs ++ [] ≡ xs
append_none [] = refl
append_none (x ∷ xs) = ap (λ l. x ∷ l) (append_none xs)

pub taken_push : {A : Type 0} (xs : List A) (k : ℕ) (x : A) → slice_get xs k ≡ Some x → take (k + 1) xs ≡ take k xs ++ x ∷ []
taken_push xs k x is = ap (λ n. take n xs) (add-one k) ∙ by xs k is
  where
    by : (ys : List _) (n : ℕ) → slice_get ys n ≡ Some x → take (suc n) ys ≡ take n ys ++ x ∷ []
    by [] n h = cc
    by (y ∷ ys) zero h = ap (λ z. z ∷ []) (some_is h)
      where
        some_is : Some y ≡ Some x → y ≡ x
        some_is e = cc
    by (y ∷ ys) (suc n) h = ap (λ l. y ∷ l) (by ys n h)

-- What is added of the edges of a block, of which these are the first.
pub record AddedTo (before after : ReachedEdges) (counts : Counts) (from : ℕ) (edges : List Edge) : Type 0 where
  pub added : (f to j : ℕ) → has_edge after f to j ≡ (if from == f then is_chosen (flags_to edges to) j else has_edge before f to j)
  pub counted_so : (to : ℕ) → counted counts to ≡ length (flags_to edges to)

pub added_start : (before : ReachedEdges) (counts : Counts) (from : ℕ) → ((to j : ℕ) → has_edge before from to j ≡ false) → ((k : ℕ) → counted counts k ≡ 0) → AddedTo before before counts from []
added_start before counts from none zeros = record { added = λ f to j. by (from == f) f to j refl; counted_so = zeros }
  where
    by : (same : Bool) (f to j : ℕ) → (from == f) ≡ same → has_edge before f to j ≡ (if same then false else has_edge before f to j)
    by true f to j e = ap (λ x. has_edge before x to j) (sym (eqb-true from f e)) ∙ none to j
    by false f to j e = refl

added_at : (same to_same r : Bool) (xs ys : List Bool) (n j : ℕ) (old : Bool) → (to_same ≡ true → n ≡ length xs) → ys ≡ xs ++ (if to_same then r ∷ [] else [])
    → ((r && (same && (to_same && (n == j)))) || (if same then is_chosen xs j else old)) ≡ (if same then is_chosen ys j else old)
added_at false to_same r xs ys n j old long is = ap (λ b. b || old) (and_none r)
added_at true false r xs ys n j old long is = ap (λ b. b || is_chosen xs j) (and_none r) ∙ ap (λ l. is_chosen l j) (sym (is ∙ append_none xs))
added_at true true r xs ys n j old long is = ap (λ m. (r && (m == j)) || is_chosen xs j) (long refl) ∙ sym (chosen_push xs r j) ∙ ap (λ l. is_chosen l j) (sym is)

count_at : (b r : Bool) (n : ℕ) (xs ys : List Bool) → n ≡ length xs → ys ≡ xs ++ (if b then r ∷ [] else []) → (if b then suc n else n) ≡ length ys
count_at true r n xs ys long is = omega (arith, long, ap length is, length-append xs (r ∷ []))
count_at false r n xs ys long is = long ∙ ap length (sym (is ∙ append_none xs))

pub added_step : (before mid after : ReachedEdges) (counts more : Counts) (from : ℕ) (es : List Edge) (e : Edge) → AddedTo before mid counts from es
    → ((f t i : ℕ) → has_edge after f t i ≡ ((e.reached && ((from == f) && ((e.to == t) && (counted counts e.to == i)))) || has_edge mid f t i))
    → ((k : ℕ) → counted more k ≡ (if e.to == k then suc (counted counts k) else counted counts k)) → AddedTo before after more from (es ++ e ∷ [])
added_step before mid after counts more from es e h edge count = record {
  added = λ f t j.
      edge f t j ∙ ap (λ old. (e.reached && ((from == f) && ((e.to == t) && (counted counts e.to == j)))) || old) (h.added f t j)
      ∙ added_at (from == f) (e.to == t) e.reached (flags_to es t) (flags_to (es ++ e ∷ []) t) (counted counts e.to) j (has_edge before f t j)
      (λ same. h.counted_so e.to ∙ ap (λ x. length (flags_to es x)) (eqb-true e.to t same)) (flags_push es e t);
  counted_so = λ k. count k ∙ count_at (e.to == k) e.reached (counted counts k) (flags_to es k) (flags_to (es ++ e ∷ []) k) (h.counted_so k) (flags_push es e k);
}

-- the edge at a place, and where it goes
pub record IsEdgeAt (edges : List Edge) (k to : ℕ) (flag : Bool) : Type 0 where
  pub edge : Edge
  pub stands : slice_get edges k ≡ Some edge
  pub goes : edge.to ≡ to
  pub is : flag ≡ edge.reached

pub edge_at : (edges : List Edge) (tos : List ℕ) (k to : ℕ) (flag : Bool) → map (λ edge. edge.to) edges ≡ tos → slice_get tos k ≡ Some to → IfSome (slice_get edges k) (λ edge. flag ≡ edge.reached) → IsEdgeAt edges k to flag
edge_at edges tos k to flag same goes is = by edges k (subst (λ l. slice_get l k ≡ Some to) (sym same) goes) is
  where
    by : (es : List Edge) (n : ℕ) → slice_get (map (λ (edge : Edge). edge.to) es) n ≡ Some to → IfSome (slice_get es n) (λ edge. flag ≡ edge.reached) → IsEdgeAt es n to flag
    by [] n h i = cc
    by (e ∷ es) zero h i = record { edge = e; stands = refl; goes = some_is h; is = i }
      where
        some_is : Some e.to ≡ Some to → e.to ≡ to
        some_is x = cc
    by (e ∷ es) (suc n) h i = let more = by es n h i in record { edge = more.edge; stands = more.stands; goes = more.goes; is = more.is }

pub edges_long : (edges : List Edge) (tos : List ℕ) → map (λ edge. edge.to) edges ≡ tos → length edges ≡ length tos
edges_long edges tos same = by edges ∙ ap length same
  where
    by : (es : List Edge) → length es ≡ length (map (λ (edge : Edge). edge.to) es)
    by [] = refl
    by (e ∷ es) = ap suc (by es)

-- fewer were counted than a place has before it
pub counted_less : (before after : ReachedEdges) (counts : Counts) (from k to : ℕ) (edges : List Edge) → AddedTo before after counts from (take k edges) → k ≤ length edges → counted counts to ≤ k
counted_less before after counts from k to edges h within = omega (arith, h.counted_so to, flags_long (take k edges) to, length-take-le k edges within)

pub past_end : {A : Type 0} (xs : List A) (k : ℕ) → slice_get xs k ≡ None → length xs ≤ k
past_end [] k none = omega arith
past_end (x ∷ xs) zero none = cc
past_end (x ∷ xs) (suc k) none = omega (arith, past_end xs k none)

taken_all : {A : Type 0} (xs : List A) (k : ℕ) → length xs ≤ k → take k xs ≡ xs
taken_all [] zero past = refl
taken_all [] (suc k) past = refl
taken_all (x ∷ xs) zero past = absurd (omega (arith, past))
taken_all (x ∷ xs) (suc k) past = ap (λ l. x ∷ l) (taken_all xs k (omega (arith, past)))

-- the edge at a place is added
pub added_next : (before mid after : ReachedEdges) (counts more : Counts) (from k to n : ℕ) (edges : List Edge) (tos : List ℕ) (flag : Bool) → AddedTo before mid counts from (take k edges) → map (λ edge. edge.to) edges ≡ tos
    → slice_get tos k ≡ Some to → IfSome (slice_get edges k) (λ edge. flag ≡ edge.reached) → n ≡ counted counts to
    → ((f t i : ℕ) → has_edge after f t i ≡ ((flag && ((from == f) && ((to == t) && (n == i)))) || has_edge mid f t i))
    → ((j : ℕ) → counted more j ≡ (if to == j then suc (counted counts j) else counted counts j)) → AddedTo before after more from (take (k + 1) edges)
added_next before mid after counts more from k to n edges tos flag h same goes is many edge count =
    let at = edge_at edges tos k to flag same goes is in
    subst (AddedTo before after more from) (sym (taken_push edges k at.edge at.stands))
    (added_step before mid after counts more from (take k edges) at.edge h
    (λ f t i.
    edge f t i ∙ ap (λ x. (x && ((from == f) && ((to == t) && (n == i)))) || has_edge mid f t i) at.is
    ∙ ap (λ m. (at.edge.reached && ((from == f) && ((to == t) && (m == i)))) || has_edge mid f t i) (many ∙ ap (counted counts) (sym at.goes))
    ∙ ap (λ x. (at.edge.reached && ((from == f) && ((x == t) && (counted counts at.edge.to == i)))) || has_edge mid f t i) (sym at.goes))
    (λ j. count j ∙ ap (λ x. if x == j then suc (counted counts j) else counted counts j) (sym at.goes)))

pub added_all : (before after : ReachedEdges) (counts : Counts) (from k : ℕ) (edges : List Edge) → AddedTo before after counts from (take k edges) → length edges ≤ k
    → (f to j : ℕ) → has_edge after f to j ≡ (if from == f then is_chosen (flags_to edges to) j else has_edge before f to j)
added_all before after counts from k edges h past f to j = h.added f to j ∙ ap (λ es. if from == f then is_chosen (flags_to es to) j else has_edge before f to j) (taken_all edges k past)

-- ---- blocks

-- The reached edges of the first n blocks are there, and no others.
pub record AddedBefore (a : Assigned) (e : ReachedEdges) (n : ℕ) : Type 0 where
  pub below : (f to j : ℕ) → f < n → has_edge e f to j ≡ is_chosen (edges_to a f to) j
  pub above : (f to j : ℕ) → n ≤ f → has_edge e f to j ≡ false

pub before_start : (a : Assigned) (e : ReachedEdges) → ((f to j : ℕ) → has_edge e f to j ≡ false) → AddedBefore a e 0
before_start a e none = record { below = λ f to j less. absurd (omega (arith, less)); above = λ f to j past. none f to j }

pub before_next : (a : Assigned) (e next : ReachedEdges) (n : ℕ) → AddedBefore a e n → ((f to j : ℕ) → has_edge next f to j ≡ (if n == f then is_chosen (edges_to a n to) j else has_edge e f to j)) → AddedBefore a next (n + 1)
before_next a e next n h made = record {
  below = λ f to j less. elim (is_or_not f n) [
    | inl same ↦ made f to j ∙ ap (λ b. if b then is_chosen (edges_to a n to) j else has_edge e f to j) (eq-eqb n f (sym same)) ∙ ap (λ m. is_chosen (edges_to a m to) j) (sym same)
    | inr other ↦ made f to j ∙ ap (λ b. if b then is_chosen (edges_to a n to) j else has_edge e f to j) (apart n f (λ same. other (sym same))) ∙ h.below f to j (omega (arith, less, other))
  ];
  above = λ f to j past.
      let less : n < f = omega (arith, past) in
      made f to j ∙ ap (λ b. if b then is_chosen (edges_to a n to) j else has_edge e f to j) (apart n f (λ same. omega (arith, less, same))) ∙ h.above f to j (omega (arith, past));
}

pub before_end : (a : Assigned) (e : ReachedEdges) (n : ℕ) → AddedBefore a e n → length a.edges ≤ n → (f to j : ℕ) → has_edge e f to j ≡ is_chosen (edges_to a f to) j
before_end a e n h past f to j = elim (less_or f n) [
  | inl less ↦ h.below f to j less
  | inr beyond ↦ h.above f to j beyond ∙ sym (ap (λ es. is_chosen (flags_to es to) j) (ap edges_at (none a.edges f (omega (arith, past, beyond)))))
]
  where
    none : (xs : List (List Edge)) (k : ℕ) → length xs ≤ k → slice_get xs k ≡ None
    none [] k less = refl
    none (x ∷ xs) zero less = absurd (omega (arith, less))
    none (x ∷ xs) (suc k) less = none xs k (omega (arith, less))
