-- The lists of the blocks that edges come from, edge by edge.
use Rattle.std.proofs.Common.{◌≡◌, ◌≢◌, ℕ, zero, suc, ◌+◌, ◌<◌, ◌⊎◌, inl, inr, Bool, true, false, cond, List, [], ◌∷◌, ◌++◌, length, get_or, set, map, replicate, refl, sym, ap, ◌∙◌, subst, arith, add-zero, zero-add}
use Rattle.std.specs.Prelude.{◌==◌, count_by}
use Rattle.std.proofs.lemmas.Bool.Decides.{nat_tests}
use Rattle.std.proofs.lemmas.List.{map-set, get_or_default, length-map, length-set, get_or-set_same, get_or-set_other, length-replicate, get_or-replicate}
use Rattle.std.proofs.lemmas.List.Sums.{sum_by-append}
use Rattle.ir_syntax.specs.declared.body.Block.{Block}
use Rattle.ir_syntax.specs.Edges.{successors, edges}
use Rattle.ir_check.specs.Incoming.{times, with_edges, with_blocks, AreIncoming}
use Rattle.ir_check.proofs.Cases.{get_or-map}

-- One more at the end of one of the lists.
pub added_edge : {V : Type 0} (f : V → List ℕ) (vs : List V) (to from : ℕ) (v w : V) → to < length vs → v ≡ get_or vs to v → f w ≡ f v ++ from ∷ [] → map f (set vs to w) ≡ set (map f vs) to (get_or (map f vs) to [] ++ from ∷ [])
added_edge f vs to from v w within is grown =
    map-set f vs to w ∙ ap (set (map f vs) to) (grown ∙ ap (λ xs. xs ++ from ∷ []) (ap f is ∙ sym (get_or-map f vs to v) ∙ get_or_default (map f vs) to (f v) [] (omega (arith, length-map vs f))))

-- ---- how often a block stands in a list

pub same_test : (a b : ℕ) → a ≡ b → (a == b) ≡ true
same_test a b e = grind (arith, nat_tests)

pub other_test : (a b : ℕ) → a ≢ b → (a == b) ≡ false
other_test a b e = grind (arith, nat_tests)

pub split_same : (a b : ℕ) → (a ≡ b) ⊎ (a ≢ b)
split_same a b = grind (arith, nat_tests)

pub count_by-cons : {X : Type 0} (p : X → Bool) (x : X) (xs : List X) → count_by p (x ∷ xs) ≡ cond (p x) 1 0 + count_by p xs
count_by-cons p x xs = omega (arith, sum_by-append (λ y. cond (p y) 1 0) (x ∷ []) xs)

times-push : (xs : List ℕ) (from pred : ℕ) → times from (xs ++ pred ∷ []) ≡ times from xs + cond (pred == from) 1 0
times-push xs from pred = omega (arith, sum_by-append (λ x. cond (x == from) 1 0) xs (pred ∷ []))

abbrev at : List (List ℕ) → ℕ → List ℕ
at lists to = get_or lists to []

-- one edge
one_edge : (lists : List (List ℕ)) (from pred next to : ℕ) → to < length lists → times from (at (set lists next (at lists next ++ pred ∷ [])) to) ≡ times from (at lists to) + cond (next == to) (cond (pred == from) 1 0) 0
one_edge lists from pred next to within = elim (split_same next to) [ inl e ↦ here e | inr e ↦ elsewhere e ]
  where
    here : next ≡ to → times from (at (set lists next (at lists next ++ pred ∷ [])) to) ≡ times from (at lists to) + cond (next == to) (cond (pred == from) 1 0) 0
    here e =
        ap (λ n. times from (at (set lists n (at lists n ++ pred ∷ [])) to)) e ∙ ap (times from) (get_or-set_same lists to (at lists to ++ pred ∷ []) [] within)
        ∙ times-push (at lists to) from pred ∙ ap (λ b. times from (at lists to) + cond b (cond (pred == from) 1 0) 0) (sym (same_test next to e))

    elsewhere : next ≢ to → times from (at (set lists next (at lists next ++ pred ∷ [])) to) ≡ times from (at lists to) + cond (next == to) (cond (pred == from) 1 0) 0
    elsewhere e =
        ap (times from) (get_or-set_other lists next to (at lists next ++ pred ∷ []) [] (λ same. e (sym same)))
        ∙ sym (add-zero (times from (at lists to))) ∙ ap (λ b. times from (at lists to) + cond b (cond (pred == from) 1 0) 0) (sym (other_test next to e))

-- ---- the edges of a block

with_edges-length : (lists : List (List ℕ)) (from : ℕ) (tos : List ℕ) → length (with_edges lists from tos) ≡ length lists
with_edges-length lists from [] = refl
with_edges-length lists from (to ∷ tos) = with_edges-length (set lists to (at lists to ++ from ∷ [])) from tos ∙ length-set lists to (at lists to ++ from ∷ [])

edges_own : (lists : List (List ℕ)) (from to : ℕ) (tos : List ℕ) → to < length lists → times from (at (with_edges lists from tos) to) ≡ times from (at lists to) + count_by (λ place. place == to) tos
edges_own lists from to [] within = sym (add-zero (times from (at lists to)))
edges_own lists from to (next ∷ tos) within =
    let more = set lists next (at lists next ++ from ∷ []) in
    let less : to < length more = omega (arith, length-set lists next (at lists next ++ from ∷ [])) in
    let here : times from (at more to) ≡ times from (at lists to) + cond (next == to) 1 0 = one_edge lists from from next to within ∙ ap (λ b. times from (at lists to) + cond (next == to) (cond b 1 0) 0) (same_test from from refl) in
    let step : count_by (λ place. place == to) (next ∷ tos) ≡ cond (next == to) 1 0 + count_by (λ place. place == to) tos = count_by-cons (λ place. place == to) next tos in
    omega (arith, edges_own more from to tos less, here)

edges_other : (lists : List (List ℕ)) (from pred to : ℕ) (tos : List ℕ) → pred ≢ from → to < length lists → times from (at (with_edges lists pred tos) to) ≡ times from (at lists to)
edges_other lists from pred to [] other within = refl
edges_other lists from pred to (next ∷ tos) other within =
    let more = set lists next (at lists next ++ pred ∷ []) in
    let less : to < length more = omega (arith, length-set lists next (at lists next ++ pred ∷ [])) in
    edges_other more from pred to tos other less ∙ one_edge lists from pred next to within ∙ ap (λ b. times from (at lists to) + cond (next == to) (cond b 1 0) 0) (other_test pred from other) ∙ none (next == to) (times from (at lists to))
  where
    none : (b : Bool) (n : ℕ) → n + cond b 0 0 ≡ n
    none true n = add-zero n
    none false n = add-zero n

-- ---- the edges of blocks

with_blocks-length : (lists : List (List ℕ)) (from : ℕ) (blocks : List Block) → length (with_blocks lists from blocks) ≡ length lists
with_blocks-length lists from [] = refl
with_blocks-length lists from (block ∷ blocks) = with_blocks-length (with_edges lists from (successors block.term)) (from + 1) blocks ∙ with_edges-length lists from (successors block.term)

-- blocks from a place on add nothing from a block before it
blocks_before : (lists : List (List ℕ)) (from start to : ℕ) (blocks : List Block) → from < start → to < length lists → times from (at (with_blocks lists start blocks) to) ≡ times from (at lists to)
blocks_before lists from start to [] before within = refl
blocks_before lists from start to (block ∷ blocks) before within =
    let more = with_edges lists start (successors block.term) in
    blocks_before more from (start + 1) to blocks (omega arith) (omega (arith, with_edges-length lists start (successors block.term)))
    ∙ edges_other lists from start to (successors block.term) (λ e. omega arith) within

blocks_add : (lists : List (List ℕ)) (start j to : ℕ) (blocks : List Block) → to < length lists → times (start + j) (at (with_blocks lists start blocks) to) ≡ times (start + j) (at lists to) + edges blocks j to
blocks_add lists start j to [] within = sym (add-zero (times (start + j) (at lists to)))
blocks_add lists start zero to (block ∷ blocks) within =
    let more = with_edges lists start (successors block.term) in
    let less : to < length more = omega (arith, with_edges-length lists start (successors block.term)) in
    let P : ℕ → Type 0 = λ from. times from (at (with_blocks more (start + 1) blocks) to) ≡ times from (at lists to) + edges (block ∷ blocks) 0 to in
    subst P (sym (add-zero start)) (blocks_before more start (start + 1) to blocks (omega arith) less ∙ edges_own lists start to (successors block.term) within)
blocks_add lists start (suc j) to (block ∷ blocks) within =
    let more = with_edges lists start (successors block.term) in
    let less : to < length more = omega (arith, with_edges-length lists start (successors block.term)) in
    let P : ℕ → Type 0 = λ from. times from (at (with_blocks more (start + 1) blocks) to) ≡ times from (at lists to) + edges blocks j to in
    let shifted : (start + 1) + j ≡ start + suc j = omega arith in
    let other : times ((start + 1) + j) (at more to) ≡ times ((start + 1) + j) (at lists to) = edges_other lists ((start + 1) + j) start to (successors block.term) (λ e. omega arith) within in
    subst P shifted (blocks_add more (start + 1) j to blocks less ∙ ap (λ n. n + edges blocks j to) other)

-- All blocks make the edges of the body.
pub are_incoming : (blocks : List Block) (lists : List (List ℕ)) → lists ≡ with_blocks (replicate (length blocks) []) 0 blocks → AreIncoming blocks lists
are_incoming blocks lists is = record {
  as_many = ap length is ∙ with_blocks-length none 0 blocks ∙ length-replicate (length blocks) [];
  each = λ from to within.
      let less : to < length none = omega (arith, length-replicate {A = List ℕ} (length blocks) []) in
      ap (λ ls. times from (at ls to)) is ∙ of_all from to less ∙ ap (λ xs. times from xs + edges blocks from to) (get_or-replicate (length blocks) to [] [] within) ∙ zero-add (edges blocks from to);
}
  where
    none : List (List ℕ)
    none = replicate (length blocks) []

    of_all : (from to : ℕ) → to < length none → times from (at (with_blocks none 0 blocks) to) ≡ times from (at none to) + edges blocks from to
    of_all from to less = let P : ℕ → Type 0 = λ n. times n (at (with_blocks none 0 blocks) to) ≡ times n (at none to) + edges blocks from to in subst P (omega arith) (blocks_add none 0 from to blocks less)
