-- The entries of phis, as they are left.
use Rattle.std.proofs.Common.{◌≡◌, ◌∙◌, inl, inr, ℕ, zero, suc, ◌+◌, ◌<◌, Bool, true, false, cond, List, [], ◌∷◌, ◌++◌, Option, Some, length, map, refl, ap, sym, subst, arith}
use Rattle.std.specs.Prelude.{◌==◌, slice_get, count_by, if◌then◌else◌}
use Rattle.std.specs.List.{filter}
use Rattle.std.proofs.lemmas.Bool.{eq-eqb, false≢true}
use Rattle.std.proofs.lemmas.List.Sums.{sum_by-cons}
use Rattle.std.proofs.lemmas.Option.{none-some}
use Rattle.ir_types.specs.declared.scalar.Scalar.{Scalar}
use Rattle.ir_types.specs.declared.scalar.Known.{Known}
use Rattle.ir_syntax.specs.declared.constant.Operand.{Operand}
use Rattle.ir_syntax.specs.declared.body.Body.{Body}
use Rattle.ir_syntax.specs.declared.item.Item.{Item}
use Rattle.fold_facts.specs.declared.edge.Edge.{Edge}
use Rattle.fold_facts.specs.Assigned.{Assigned}
use Rattle.fold_facts.proofs.Lists.{some_is, is_or_not}
use Rattle.interface.specs.Masks.{rank, is_chosen}
use Rattle.interface.specs.Summaries.{reached}
use Rattle.specialise.specs.Leaving.{Leaving, leaving, edges_to}
use Rattle.specialise.specs.Residual.{left_operand, left_entries}
use Rattle.residual_laws.proofs.Every.{Every}
use Rattle.residual_laws.proofs.Flags.{reached_flag}
use Rattle.residual_laws.proofs.Going.{apart}
use Rattle.residual_laws.proofs.Held.{Held, start_reached}
use Rattle.residual_laws.proofs.Left.{edge_set}
use Rattle.residual_laws.proofs.Ranks.{rank_set, rank_unset, rank_one}

-- ---- where they come from

-- An entry that is left is one of these, whose block is reached.
pub record IsEntryOf (w : Leaving) (entries : List (Operand × ℕ)) (x : Operand × ℕ) : Type 0 where
  pub at : ℕ
  pub entry : Operand × ℕ
  pub here : slice_get entries at ≡ Some entry
  pub set : is_chosen w.reached entry.1 ≡ true
  pub is : x ≡ (left_operand w entry.0, rank w.reached entry.1)

-- a block that an entry stands for which stays
pub entry_set : (items : List Item) (params : List Scalar) (returns : Option Scalar) (known : List Known) (body : Body) (a : Assigned) (place from j : ℕ) → Held items params returns known body a → from < length body.blocks
    → is_chosen (edges_to a from place) j ≡ true → is_chosen (reached a body.blocks) from ≡ true
entry_set items params returns known body a place from j h within set =
    let edge = edge_set a from place j set in
    reached_flag a body.blocks from within ∙ start_reached a h.led from edge.0 place edge.1

later_entry : (w : Leaving) (entry : Operand × ℕ) (entries : List (Operand × ℕ)) (xs : List (Operand × ℕ)) → Every (IsEntryOf w entries) xs → Every (IsEntryOf w (entry ∷ entries)) xs
later_entry w entry entries [] h = tt
later_entry w entry entries (x ∷ xs) h = (record { at = suc h.0.at; entry = h.0.entry; here = h.0.here; set = h.0.set; is = h.0.is }, later_entry w entry entries xs h.1)

pub entries_from : (items : List Item) (params : List Scalar) (returns : Option Scalar) (known : List Known) (body : Body) (a : Assigned) (place : ℕ) (before : List ℕ) (entries : List (Operand × ℕ)) → Held items params returns known body a
    → Every (λ (entry : Operand × ℕ). entry.1 < length body.blocks) entries → Every (IsEntryOf (leaving known body.blocks a) entries) (left_entries (leaving known body.blocks a) place before entries)
entries_from items params returns known body a place before [] h within = tt
entries_from items params returns known body a place before (entry ∷ more) h within =
    by (w.edge entry.1 place (count_by (λ other. other == entry.1) before)) refl
    (later_entry w entry more (left_entries w place (entry.1 ∷ before) more) (entries_from items params returns known body a place (entry.1 ∷ before) more h within.1))
  where
    w : Leaving
    w = leaving known body.blocks a

    by : (b : Bool) → w.edge entry.1 place (count_by (λ other. other == entry.1) before) ≡ b → Every (IsEntryOf w (entry ∷ more)) (left_entries w place (entry.1 ∷ before) more)
        → Every (IsEntryOf w (entry ∷ more)) ((if b then (left_operand w entry.0, rank w.reached entry.1) ∷ [] else []) ++ left_entries w place (entry.1 ∷ before) more)
    by true e rest =
        (record { at = 0; entry = entry; here = refl; set = entry_set items params returns known body a place entry.1 (count_by (λ other. other == entry.1) before) h within.0 e; is = refl }, rest)
    by false e rest = rest

-- ---- how many there are for a block

abbrev pub one_or_none : Bool → ℕ
one_or_none b = cond b 1 0

pub count_cons : {A : Type 0} (p : A → Bool) (x : A) (xs : List A) → count_by p (x ∷ xs) ≡ one_or_none (p x) + count_by p xs
count_cons p x xs = sum_by-cons (λ y. one_or_none (p y)) x xs

pub count_yes : {A : Type 0} (p : A → Bool) (x : A) (xs : List A) → p x ≡ true → count_by p (x ∷ xs) ≡ suc (count_by p xs)
count_yes p x xs e =
    let one : one_or_none (p x) ≡ 1 = ap one_or_none e in
    omega (arith, count_cons p x xs, one)

pub count_no : {A : Type 0} (p : A → Bool) (x : A) (xs : List A) → p x ≡ false → count_by p (x ∷ xs) ≡ count_by p xs
count_no p x xs e =
    let none : one_or_none (p x) ≡ 0 = ap one_or_none e in
    omega (arith, count_cons p x xs, none)

abbrev pub for_block : ℕ → Operand × ℕ → Bool
for_block from entry = entry.1 == from

-- Of the entries for a reached block those stay that stand for reached edges.
pub entries_count : (items : List Item) (params : List Scalar) (returns : Option Scalar) (known : List Known) (body : Body) (a : Assigned) (place from : ℕ) (before : List ℕ) (entries : List (Operand × ℕ)) → Held items params returns known body a
    → is_chosen (reached a body.blocks) from ≡ true → Every (λ (entry : Operand × ℕ). entry.1 < length body.blocks) entries
    → count_by (for_block (rank (reached a body.blocks) from)) (left_entries (leaving known body.blocks a) place before entries) + rank (edges_to a from place) (count_by (λ other. other == from) before)
    ≡ rank (edges_to a from place) (count_by (λ other. other == from) before + count_by (for_block from) entries)
entries_count items params returns known body a place from before [] h set within = zero_on (rank mask n) ∙ ap (rank mask) (none_on n)
  where
    mask : List Bool
    mask = edges_to a from place

    n : ℕ
    n = count_by (λ other. other == from) before

    zero_on : (m : ℕ) → 0 + m ≡ m
    zero_on m = omega arith

    none_on : (m : ℕ) → m ≡ m + 0
    none_on m = omega arith
entries_count items params returns known body a place from before (entry ∷ more) h set within =
    elim (is_or_not entry.1 from) [
      | inl same ↦ mine same (is_chosen mask n) refl (entries_count items params returns known body a place from (entry.1 ∷ before) more h set within.1)
      | inr other ↦ not_mine other (w.edge entry.1 place (count_by (λ other. other == entry.1) before)) refl (entries_count items params returns known body a place from (entry.1 ∷ before) more h set within.1)
    ]
  where
    w : Leaving
    w = leaving known body.blocks a

    mask : List Bool
    mask = edges_to a from place

    n : ℕ
    n = count_by (λ other. other == from) before

    m : ℕ
    m = count_by (for_block from) more

    from' : ℕ
    from' = rank (reached a body.blocks) from

    made : Operand × ℕ
    made = (left_operand w entry.0, rank w.reached entry.1)

    rest : List (Operand × ℕ)
    rest = left_entries w place (entry.1 ∷ before) more

    after : Type 0
    after = count_by (for_block from') rest + rank mask (count_by (λ other. other == from) (entry.1 ∷ before)) ≡ rank mask (count_by (λ other. other == from) (entry.1 ∷ before) + m)

    goal : Bool → Type 0
    goal b = count_by (for_block from') ((if b then made ∷ [] else []) ++ rest) + rank mask n ≡ rank mask (n + count_by (for_block from) (entry ∷ more))

    mine : entry.1 ≡ from → (b : Bool) → is_chosen mask n ≡ b → after → goal (w.edge entry.1 place (count_by (λ other. other == entry.1) before))
    mine same b e more_of =
        let flag : w.edge entry.1 place (count_by (λ other. other == entry.1) before) ≡ b = ap (λ k. w.edge k place (count_by (λ other. other == k) before)) same ∙ e in
        let here : (entry.1 == from) ≡ true = eq-eqb entry.1 from same in
        let seen : count_by (λ other. other == from) (entry.1 ∷ before) ≡ suc n = count_yes (λ other. other == from) entry.1 before here in
        let all : count_by (for_block from) (entry ∷ more) ≡ suc m = count_yes (for_block from) entry more here in
        let low : rank mask (count_by (λ other. other == from) (entry.1 ∷ before)) ≡ rank mask (suc n) = ap (rank mask) seen in
        let high : rank mask (count_by (λ other. other == from) (entry.1 ∷ before) + m) ≡ rank mask (n + count_by (for_block from) (entry ∷ more)) = ap (rank mask) (omega (arith, seen, all)) in
        subst goal (sym flag) (counted b e low high more_of)
      where
        counted : (b : Bool) → is_chosen mask n ≡ b → rank mask (count_by (λ other. other == from) (entry.1 ∷ before)) ≡ rank mask (suc n)
            → rank mask (count_by (λ other. other == from) (entry.1 ∷ before) + m) ≡ rank mask (n + count_by (for_block from) (entry ∷ more)) → after → goal b
        counted true e low high h =
            let own : count_by (for_block from') (made ∷ rest) ≡ suc (count_by (for_block from') rest) = count_yes (for_block from') made rest (eq-eqb (rank w.reached entry.1) from' (ap (rank w.reached) same)) in
            omega (arith, own, low, high, h, rank_set mask n e)
        counted false e low high h = omega (arith, low, high, h, rank_unset mask n e)

    not_mine : (entry.1 ≡ from → ⊥) → (b : Bool) → w.edge entry.1 place (count_by (λ other. other == entry.1) before) ≡ b → after → goal b
    not_mine other b e more_of =
        let here : (entry.1 == from) ≡ false = apart entry.1 from other in
        let seen : count_by (λ other. other == from) (entry.1 ∷ before) ≡ n = count_no (λ other. other == from) entry.1 before here in
        let all : count_by (for_block from) (entry ∷ more) ≡ m = count_no (for_block from) entry more here in
        let low : rank mask (count_by (λ other. other == from) (entry.1 ∷ before)) ≡ rank mask n = ap (rank mask) seen in
        let high : rank mask (count_by (λ other. other == from) (entry.1 ∷ before) + m) ≡ rank mask (n + count_by (for_block from) (entry ∷ more)) = ap (rank mask) (omega (arith, seen, all)) in
        counted b e low high more_of
      where
        counted : (b : Bool) → w.edge entry.1 place (count_by (λ other. other == entry.1) before) ≡ b → rank mask (count_by (λ other. other == from) (entry.1 ∷ before)) ≡ rank mask n
            → rank mask (count_by (λ other. other == from) (entry.1 ∷ before) + m) ≡ rank mask (n + count_by (for_block from) (entry ∷ more)) → after → goal b
        counted true e low high g =
            let entry_on = entry_set items params returns known body a place entry.1 (count_by (λ other. other == entry.1) before) h within.0 e in
            let own : count_by (for_block from') (made ∷ rest) ≡ count_by (for_block from') rest = count_no (for_block from') made rest (apart (rank w.reached entry.1) from' (λ same. other (rank_one (reached a body.blocks) entry.1 from entry_on set same))) in
            omega (arith, own, low, high, g)
        counted false e low high g = omega (arith, low, high, g)

-- ---- edges to a block

pub chosen_less : (mask : List Bool) (j : ℕ) → is_chosen mask j ≡ true → j < length mask
chosen_less [] j set = absurd (false≢true set)
chosen_less (flag ∷ mask) zero set = omega arith
chosen_less (flag ∷ mask) (suc j) set = omega (arith, chosen_less mask j set)

abbrev pub flags_to : List Edge → ℕ → List Bool
flags_to es to = map (λ edge. edge.reached) (filter (λ edge. edge.to == to) es)

-- there are as many flags as edges
pub flags_long : (es : List Edge) (to : ℕ) → length (flags_to es to) ≡ count_by (λ place. place == to) (map (λ edge. edge.to) es)
flags_long [] to = refl
flags_long (e ∷ es) to = by (e.to == to) refl (flags_long es to)
  where
    by : (b : Bool) → (e.to == to) ≡ b → length (flags_to es to) ≡ count_by (λ place. place == to) (map (λ (edge : Edge). edge.to) es)
        → length (map (λ (edge : Edge). edge.reached) (cond b (e ∷ filter (λ edge. edge.to == to) es) (filter (λ edge. edge.to == to) es))) ≡ count_by (λ place. place == to) (e.to ∷ map (λ (edge : Edge). edge.to) es)
    by true same h = omega (arith, h, count_yes (λ place. place == to) e.to (map (λ (edge : Edge). edge.to) es) same)
    by false same h = omega (arith, h, count_no (λ place. place == to) e.to (map (λ (edge : Edge). edge.to) es) same)

-- a reached edge has its flag
pub flag_of : (es : List Edge) (to k : ℕ) → slice_get es k ≡ Some (record { to = to; reached = true }) → (j : ℕ) × (is_chosen (flags_to es to) j ≡ true)
flag_of [] to k is = absurd (none-some (record { to = to; reached = true }) is)
flag_of (e ∷ es) to zero is = by (e.to == to) (eq-eqb e.to to (ap (λ (x : Edge). x.to) (some_is is)))
  where
    by : (b : Bool) → b ≡ true → (j : ℕ) × (is_chosen (map (λ (edge : Edge). edge.reached) (cond b (e ∷ filter (λ edge. edge.to == to) es) (filter (λ edge. edge.to == to) es))) j ≡ true)
    by true same = (0, ap (λ (x : Edge). x.reached) (some_is is))
    by false same = absurd (false≢true same)
flag_of (e ∷ es) to (suc k) is = by (e.to == to) (flag_of es to k is)
  where
    by : (b : Bool) → (j : ℕ) × (is_chosen (flags_to es to) j ≡ true) → (j : ℕ) × (is_chosen (map (λ (edge : Edge). edge.reached) (cond b (e ∷ filter (λ edge. edge.to == to) es) (filter (λ edge. edge.to == to) es))) j ≡ true)
    by true h = (suc h.0, h.1)
    by false h = h
