-- What steps make of the view of a seat.
use Rattle.std.specs.Prelude.{ℕ, zero, suc, ◌+◌, not, ◌==◌, List, [], ◌∷◌, ◌++◌, map, filter, flat_map, min, replicate, slice_set, Option, if◌then◌else◌}
use Rattle.table_rule.specs.declared.view.View.{View}
use Rattle.table_rule.specs.Layout.{word_of}

-- a row that is open with a worker: the worker, the row's number, and its words but the claim
abbrev pub Held : Type 0
Held = ℕ × (ℕ × List ℕ)

-- n numbers from k on
abbrev pub counted : ℕ → ℕ → List ℕ
counted k zero = []
counted k (suc n) = k ∷ counted (k + 1) n

-- the first seat has all workers
abbrev pub all_of : ℕ → View
all_of n = record { workers = counted 0 n; lead = 0; limit = 65536 + n; held = []; known = []; made = []; claims = []; empties = [] }

abbrev pub holding : View → List Held → View
holding v held = record { workers = v.workers; lead = v.lead; limit = v.limit; held = held; known = v.known; made = v.made; claims = v.claims; empties = v.empties }

abbrev pub opened : View → ℕ → View
opened v n = holding v ((v.lead, (n, replicate 36 0)) ∷ v.held)

abbrev pub put : ℕ → ℕ → ℕ → Held → Held
put x j a h = (h.0, (h.1.0, if h.1.0 == x then slice_set h.1.1 j a else h.1.1))

-- the j-th word of the open row x has become a
abbrev pub writes : View → ℕ → ℕ → ℕ → View
writes v x j a = holding v (map (put x j a) v.held)

abbrev pub learns : View → List (ℕ × ℕ) → View
learns v more = record { workers = v.workers; lead = v.lead; limit = v.limit; held = v.held; known = more ++ v.known; made = v.made; claims = v.claims; empties = v.empties }

abbrev pub knows : View → ℕ → ℕ → View
knows v q n = learns v ((q, n) ∷ [])

abbrev pub saw_empty : View → ℕ → View
saw_empty v p = record { workers = v.workers; lead = v.lead; limit = v.limit; held = v.held; known = v.known; made = v.made; claims = v.claims; empties = v.empties ++ p ∷ [] }

-- these words stand from a place on
abbrev pub pairs_from : ℕ → List ℕ → List (ℕ × ℕ)
pairs_from at [] = []
pairs_from at (w ∷ ws) = (at, w) ∷ pairs_from (at + 1) ws

-- what is held of the open row x
abbrev pub pairs_of : ℕ → List Held → List (ℕ × ℕ)
pairs_of x held = flat_map (λ h. if h.1.0 == x then pairs_from (word_of x 0) h.1.1 else []) held

abbrev pub without : ℕ → List Held → List Held
without x held = filter (λ h. not (h.1.0 == x)) held

-- the open row x was put into the slot at p, made by worker m under a parent or without one
abbrev pub published : View → ℕ → ℕ → ℕ → Option ℕ → View
published v p x m parent = record { workers = v.workers; lead = v.lead; limit = v.limit; held = without x v.held; known = (pairs_of x v.held ++ (p, x + 1) ∷ []) ++ v.known; made = (x, (m, parent)) ∷ v.made; claims = v.claims; empties = v.empties }

abbrev pub takes : View → ℕ → ℕ → View
takes v x k = record { workers = v.workers; lead = v.lead; limit = v.limit; held = v.held; known = v.known; made = v.made; claims = (x, k) ∷ v.claims; empties = v.empties }

abbrev pub tail_of : List ℕ → List ℕ
tail_of [] = []
tail_of (x ∷ xs) = xs

abbrev pub head_of : List ℕ → List ℕ
head_of [] = []
head_of (x ∷ xs) = x ∷ []

abbrev pub least_of : List ℕ → ℕ
least_of [] = 0
least_of (x ∷ []) = x
least_of (x ∷ y ∷ xs) = min x (least_of (y ∷ xs))

abbrev pub with_workers : View → List ℕ → View
with_workers v workers = record { workers = workers; lead = least_of workers; limit = v.limit; held = []; known = v.known; made = []; claims = []; empties = [] }

-- what a split leaves, and what it gives
abbrev pub keeping : View → View
keeping v = with_workers v (tail_of v.workers)

abbrev pub giving : View → View
giving v = with_workers v (head_of v.workers)

-- what a join leaves
abbrev pub both_of : View → View → View
both_of v w = record { workers = v.workers ++ w.workers; lead = min v.lead w.lead; limit = v.limit; held = v.held ++ w.held; known = v.known ++ w.known; made = v.made ++ w.made; claims = v.claims ++ w.claims; empties = v.empties }

abbrev pub spent : View
spent = record { workers = []; lead = 0; limit = 0; held = []; known = []; made = []; claims = []; empties = [] }
