-- Least plans: from needed rows to functions and copies in the order of demands.
use Rattle.std.proofs.Common.{◌≡◌, ◌≢◌, ◌↔◌, ℕ, ◌+◌, ◌<◌, ◌≤◌, true, false, All, AllPairs, Contains, List, [], ◌∷◌, Option, None, Some, length, get_or, map, reverse, sum_by, refl, ap, sym, subst, ◌∙◌, ⊎_elim, arith}
use Rattle.std.specs.Prelude.{slice_get}
use Rattle.std.specs.List.{filter_map, cons_option}
use Rattle.std.specs.Ordering.{is_lt, ordering_reverse}
use Rattle.std.specs.declared.cmp.Ordering.{Ordering}
use Rattle.std.specs.declared.cmp.Ordering.TheVariants.{Less, Equal, Greater}
use Rattle.std.specs.List.Sorted.{IsPermutation, IsSortedByKey}
use Rattle.std.proofs.lemmas.Bool.{cases_lt}
use Rattle.std.proofs.lemmas.List.{length-map, get_or-map}
use Rattle.std.proofs.lemmas.List.Elements.{All-nil, All-cons, All-head, All-tail, All-map, All-contains, Contains-get_or}
use Rattle.std.proofs.lemmas.List.Sorted.{All-permutation, IsPermutation-map, IsPermutation-refl, IsPermutation-reverse, IsPermutation-trans, length_permutation, sum_by-IsPermutation}
use Rattle.std.proofs.lemmas.List.Sums.{sum_by-cons}
use Rattle.ir_syntax.specs.declared.item.Item.{Item}
use Rattle.ir_syntax.specs.declared.item.Module.{Module}
use Rattle.demands.specs.declared.demand.Demand.{Demand}
use Rattle.demands.specs.declared.demand.Demand.TheVariants.{Func, Var}
use Rattle.demands.specs.Order.{demand_order}
use Rattle.demands.specs.TotalOrder.{demand_total}
use Rattle.demands.specs.Rows.{words_of}
use Rattle.demands.specs.Reading.{read_row}
use Rattle.demand_core.specs.Needed as by_row
use Rattle.fixed_point.specs.Needs.{AreAllNeeded, NeedsMoreThan, WeighsMoreThan}
use Rattle.straight_plan.specs.declared.cut.Ask.{Ask}
use Rattle.straight_plan.specs.declared.cut.Cut.{Cut}
use Rattle.straight_plan.specs.Folding.{IsLeastClosed}
use Rattle.straight_plan.specs.Asked.{demand_of, insts_at, IsNeeded}
use Rattle.straight_plan.specs.Left.{asks_of, size_of, IsLeastPlan, IsPlanned, AreTooMany, IsTooMuch}
use Rattle.straight_fold.specs.declared.piece.Found.{Found}
use Rattle.straight_fold.specs.declared.piece.Piece.{Piece}
use Rattle.straight_fold.specs.Items.{AreStraightItems}
use Rattle.straight_fold.specs.Calls.{row_of}
use Rattle.straight_fold.specs.Expansion.{IsPieceOf, cut_of, found_at, row_needs, row_size, size_at}
use Rattle.straight_fold.proofs.Blocks.{folded-at}
use Rattle.straight_fold.proofs.Promised.{AreRead, TiesItself, AreInAnyOrder}
use Rattle.straight_fold.proofs.Reading.{IsGood, read-ask, ask-same}
use Rattle.straight_fold.proofs.Needed.{Contains-map, IsNeededAsk, ask-good, ask-needed, facts_at, row-needed}
use Rattle.straight_fold.proofs.Ordered.{rise-from, rises-pairs}

-- ---- lists

-- what holds of pairs of images
pub pairs-back : {X Y : Type 0} (f : X → Y) (R : Y → Y → Type 0) (xs : List X) → AllPairs R (map f xs) → AllPairs (λ a b. R (f a) (f b)) xs
pairs-back f R xs all i j d before within =
    let here : get_or (map f xs) i (f d) ≡ f (get_or xs i d) = get_or-map f xs i d (f d) (omega arith) in
    let there : get_or (map f xs) j (f d) ≡ f (get_or xs j d) = get_or-map f xs j d (f d) within in
    subst (R (f (get_or xs i d))) there (subst (λ (y : _). R y (get_or (map f xs) j (f d))) here (all i j (f d) before (omega (arith, length-map xs f))))

-- what has an image there
pub record IsImage {X Y : Type 0} (f : X → Y) (xs : List X) (y : Y) : Type 0 where
  pub from : X
  pub there : Contains xs from
  pub image : f from ≡ y

pub image-of : {X Y : Type 0} (f : X → Y) (xs : List X) (y : Y) → Contains (map f xs) y → IsImage f xs y
image-of f [] y at = absurd (omega (arith, at.1))
image-of f (x ∷ xs) y at =
    let k = at.0 in
    let within : k < length (x ∷ xs) = omega (arith, at.1, length-map (x ∷ xs) f) in
    record {
      from = get_or (x ∷ xs) k x;
      there = Contains-get_or (x ∷ xs) k x within;
      image = sym (get_or-map f (x ∷ xs) k x y within) ∙ at.2;
    }

sum_by-map : {X Y : Type 0} (f : X → Y) (size : Y → ℕ) (xs : List X) → sum_by size (map f xs) ≡ sum_by (λ x. size (f x)) xs
sum_by-map f size [] = refl
sum_by-map f size (x ∷ xs) = sum_by-cons size (f x) (map f xs) ∙ ap (λ (n : ℕ). size (f x) + n) (sum_by-map f size xs) ∙ sym (sum_by-cons (λ y. size (f y)) x xs)

sums-same : {X : Type 0} (f g : X → ℕ) (xs : List X) → All (λ x. f x ≡ g x) xs → sum_by f xs ≡ sum_by g xs
sums-same f g [] all = refl
sums-same f g (x ∷ xs) all =
    sum_by-cons f x xs ∙ (λ i. All-head (λ x. f x ≡ g x) x xs all i + sums-same f g xs (All-tail (λ x. f x ≡ g x) x xs all) i) ∙ sym (sum_by-cons g x xs)

-- ---- the least plan of functions in order

abbrev pub cut_for : List Item → Ask → Cut
cut_for items ask = record { ask = ask; facts = facts_at items ask }

asks-back : (items : List Item) (asks : List Ask) → asks_of (map (cut_for items) asks) ≡ asks
asks-back items [] = refl
asks-back items (ask ∷ asks) = ap (λ (others : List Ask). ask ∷ others) (asks-back items asks)

module _ (reads : AreRead) (ties : TiesItself) (any_order : AreInAnyOrder) (m : Module) (all : AreStraightItems m.items) (start : Ask) (start_good : IsGood m.items start) where
  -- functions whose rows are the needed ones
  pub record AreFunctions (rows : List (List ℕ)) (asks : List Ask) : Type 0 where
    pub needed : AreAllNeeded (row_needs (m ∷ [])) (row_of start ∷ []) rows
    pub rows_are : IsPermutation rows (map row_of asks)
    pub good : All (IsGood m.items) asks

  pub rows_all : (rows : List (List ℕ)) (asks : List Ask) → AreFunctions rows asks → AreAllNeeded (row_needs (m ∷ [])) (row_of start ∷ []) (map row_of asks)
  rows_all rows asks are = any_order (row_needs (m ∷ [])) (row_of start ∷ []) rows (map row_of asks) are.rows_are are.needed

  pub just-needed : (rows : List (List ℕ)) (asks : List Ask) → AreFunctions rows asks → (ask : Ask) → Contains asks ask ↔ IsNeeded m.items start ask
  just-needed rows asks are ask =
      let whole = rows_all rows asks are in (
        (λ there.
            let one_good = All-contains (IsGood m.items) asks ask are.good there in
            let one_needed = All-contains (by_row.IsNeeded (row_needs (m ∷ [])) (row_of start ∷ [])) (map row_of asks) (row_of ask) whole.needed (Contains-map row_of asks ask there) in
            let n = row-needed reads m all start start_good (row_of ask) one_needed in
            subst (IsNeeded m.items start) (ask-same reads m all n.ask ask n.good one_good n.row_is) n.needed),
        (λ needed.
            let at = image-of row_of asks (row_of ask) (whole.complete (row_of ask) (ask-needed reads m all start start_good ask needed)) in
            let same = ask-same reads m all at.from ask (All-contains (IsGood m.items) asks at.from are.good at.there) (ask-good m all start start_good ask needed) at.image in
            subst (Contains asks) same at.there),
      )

  pub least-plan : (rows : List (List ℕ)) (asks : List Ask) → AreFunctions rows asks → AllPairs (λ a b. demand_order (demand_of a) (demand_of b) ≡ Less) asks → IsLeastPlan m.items start (map (cut_for m.items) asks)
  least-plan rows asks are up = record {
    exact = λ ask. subst (λ (others : List Ask). Contains others ask ↔ IsNeeded m.items start ask) (sym (asks-back m.items asks)) (just-needed rows asks are ask);
    folded = All-map (λ cut. IsLeastClosed cut.ask.pattern (insts_at (slice_get m.items cut.ask.place)) cut.facts) (cut_for m.items) asks (λ k d within. folded-at m.items all (get_or asks k d).place (get_or asks k d).pattern);
    ordered = subst (AllPairs (λ a b. demand_order (demand_of a) (demand_of b) ≡ Less)) (sym (asks-back m.items asks)) up;
  }

  pub plan-long : (rows : List (List ℕ)) (asks : List Ask) → AreFunctions rows asks → length (map (cut_for m.items) asks) ≡ length rows
  plan-long rows asks are = length-map asks (cut_for m.items) ∙ sym (length-map asks row_of) ∙ length_permutation rows (map row_of asks) are.rows_are

  pub plan-size : (rows : List (List ℕ)) (asks : List Ask) → AreFunctions rows asks → sum_by (size_of m.items) (map (cut_for m.items) asks) ≡ sum_by (row_size (m ∷ [])) rows
  plan-size rows asks are =
      sum_by-map (cut_for m.items) (size_of m.items) asks
      ∙ sums-same (λ ask. size_of m.items (cut_for m.items ask)) (λ ask. row_size (m ∷ []) (row_of ask)) asks
      (λ k d within. sym (ap (size_at m.items) (read-ask reads m all (get_or asks k d) (are.good k d within))))
      ∙ sym (sum_by-map row_of (row_size (m ∷ [])) asks)
      ∙ sum_by-IsPermutation (row_size (m ∷ [])) rows (map row_of asks) are.rows_are

  -- ---- functions from rows

  abbrev ask_in : Option Demand → Ask
  ask_in None = start
  ask_in (Some (Var symbol)) = start
  ask_in (Some (Func symbol pattern)) = record { place = symbol.item; pattern = pattern }

  abbrev ask_at : List ℕ → Ask
  ask_at row = ask_in (read_row (m ∷ []) row)

  ask-at : (row : List ℕ) → by_row.IsNeeded (row_needs (m ∷ [])) (row_of start ∷ []) row → IsNeededAsk m.items start row × IsGood m.items (ask_at row) × (row_of (ask_at row) ≡ row) × IsNeeded m.items start (ask_at row)
  ask-at row needed =
      let n = row-needed reads m all start start_good row needed in
      let same : ask_at row ≡ n.ask = ap (λ (r : List ℕ). ask_at r) (sym n.row_is) ∙ ap ask_in (read-ask reads m all n.ask n.good) in
      (n, subst (IsGood m.items) (sym same) n.good, ap row_of same ∙ n.row_is, subst (IsNeeded m.items start) (sym same) n.needed)

  map-back : (rows : List (List ℕ)) → All (by_row.IsNeeded (row_needs (m ∷ [])) (row_of start ∷ [])) rows → map row_of (map ask_at rows) ≡ rows
  map-back [] needed = refl
  map-back (row ∷ more) needed =
      let P = by_row.IsNeeded (row_needs (m ∷ [])) (row_of start ∷ []) in
      let first = ask-at row (All-head P row more needed) in
      λ i. first.2 i ∷ map-back more (All-tail P row more needed) i

  -- more rows than so many: more functions
  distinct-asks : (rows : List (List ℕ)) (asks : List Ask) → AllPairs (λ a b. a ≢ b) rows → map row_of asks ≡ rows → AllPairs (λ a b. demand_of a ≢ demand_of b) asks
  distinct-asks rows asks apart same i j d before within e =
      pairs-back row_of (λ a b. a ≢ b) asks (subst (AllPairs (λ a b. a ≢ b)) (sym same) apart) i j d before within (ap words_of e)

  pub too-many : NeedsMoreThan (row_needs (m ∷ [])) (row_of start ∷ []) 65536 → AreTooMany m.items start
  too-many more =
      let same = map-back more.rows more.are.needed in
      record {
        asks = map ask_at more.rows;
        many = omega (arith, more.more, length-map more.rows ask_at);
        distinct = λ i j d before within e. distinct-asks more.rows (map ask_at more.rows) more.are.distinct same i j d before within (ap demand_of e);
        needed = All-map (IsNeeded m.items start) ask_at more.rows (λ k d within. (ask-at (get_or more.rows k d) (more.are.needed k d within)).3);
      }

  pub too-much : WeighsMoreThan (row_needs (m ∷ [])) (row_size (m ∷ [])) (row_of start ∷ []) 8388608 → (NeedsMoreThan (row_needs (m ∷ [])) (row_of start ∷ []) 65536 → ⊥) → IsTooMuch m.items start
  too-much more not_many =
      let asks = map ask_at more.rows in
      let same = map-back more.rows more.are.needed in
      let are : AreFunctions more.rows asks = record {
        needed = more.are;
        rows_are = subst (IsPermutation more.rows) (sym same) (IsPermutation-refl more.rows);
        good = All-map (IsGood m.items) ask_at more.rows (λ k d within. (ask-at (get_or more.rows k d) (more.are.needed k d within)).1);
      } in
      record {
        cuts = map (cut_for m.items) asks;
        exact = λ ask. subst (λ (others : List Ask). Contains others ask ↔ IsNeeded m.items start ask) (sym (asks-back m.items asks)) (just-needed more.rows asks are ask);
        folded = All-map (λ cut. IsLeastClosed cut.ask.pattern (insts_at (slice_get m.items cut.ask.place)) cut.facts) (cut_for m.items) asks (λ k d within. folded-at m.items all (get_or asks k d).place (get_or asks k d).pattern);
        distinct = subst (AllPairs (λ a b. a ≢ b)) (sym (asks-back m.items asks)) (λ i j d before within e. distinct-asks more.rows asks more.are.distinct same i j d before within (ap demand_of e));
        few = at-most (length (map (cut_for m.items) asks)) 65536 (λ over. not_many (record { rows = more.rows; are = record { distinct = more.are.distinct; needed = more.are.needed }; more = omega (arith, over, plan-long more.rows asks are) }));
        much = omega (arith, more.more, plan-size more.rows asks are);
      }
    where
      at-most : (n most : ℕ) → (most < n → ⊥) → n ≤ most
      at-most n most small = ⊎_elim (λ over. absurd (small over)) (λ under. under) (cases_lt most n)

  -- ---- what the search found

  abbrev found_for : Ask → Found
  found_for ask = record { demand = demand_of ask; facts = facts_at m.items ask }

  abbrev ask_of : Found → Ask
  ask_of found = ask_in (Some found.demand)

  record IsSound (found : Found) : Type 0 where
    good : IsGood m.items (ask_of found)
    is : found ≡ found_for (ask_of found)

  abbrev found_row : Found → List ℕ
  found_row found = words_of found.demand

  abbrev piece_found : List ℕ × Piece → Option Found
  piece_found pair = pair.1.found

  record AreFound (pairs : List (List ℕ × Piece)) : Type 0 where
    sound : All IsSound (filter_map piece_found pairs)
    rows_are : map found_row (filter_map piece_found pairs) ≡ map (λ pair. pair.0) pairs

  abbrev IsNeededPair : List ℕ × Piece → Type 0
  IsNeededPair pair = by_row.IsNeeded (row_needs (m ∷ [])) (row_of start ∷ []) pair.0

  abbrev IsExpanded : List ℕ × Piece → Type 0
  IsExpanded pair = IsPieceOf (m ∷ []) pair.0 pair.1

  found-in : (pairs : List (List ℕ × Piece)) → All IsExpanded pairs → All IsNeededPair pairs → AreFound pairs
  found-in [] pieces needed = record { sound = All-nil IsSound; rows_are = refl }
  found-in (pair ∷ pairs) pieces needed =
      let n = row-needed reads m all start start_good pair.0 (All-head IsNeededPair pair pairs needed) in
      let read : read_row (m ∷ []) pair.0 ≡ Some (demand_of n.ask) = ap (read_row (m ∷ [])) (sym n.row_is) ∙ read-ask reads m all n.ask n.good in
      let piece = All-head IsExpanded pair pairs pieces in
      let is : pair.1.found ≡ Some (found_for n.ask) = piece.found ∙ ap (found_at m.items) read in
      let rest = found-in pairs (All-tail IsExpanded pair pairs pieces) (All-tail IsNeededPair pair pairs needed) in
      let whole : filter_map piece_found (pair ∷ pairs) ≡ found_for n.ask ∷ filter_map piece_found pairs = ap (λ (o : Option Found). cons_option o (filter_map piece_found pairs)) is in
      record {
        sound = subst (All IsSound) (sym whole) (All-cons IsSound (found_for n.ask) (filter_map piece_found pairs) (record { good = n.good; is = refl }) rest.sound);
        rows_are = ap (map found_row) whole ∙ (λ i. n.row_is i ∷ rest.rows_are i);
      }

  restored : (found : List Found) → All IsSound found → found ≡ map found_for (map ask_of found)
  restored [] sound = refl
  restored (one ∷ more) sound = λ i. (All-head IsSound one more sound).is i ∷ restored more (All-tail IsSound one more sound) i

  asks-good : (found : List Found) → All IsSound found → All (IsGood m.items) (map ask_of found)
  asks-good found sound = All-map (IsGood m.items) ask_of found (λ k d within. (sound k d within).good)

  rows-restored : (found : List Found) → All IsSound found → map found_row found ≡ map row_of (map ask_of found)
  rows-restored [] sound = refl
  rows-restored (one ∷ more) sound = λ i. found_row ((All-head IsSound one more sound).is i) ∷ rows-restored more (All-tail IsSound one more sound) i

  cuts-restored : (asks : List Ask) → filter_map cut_of (map found_for asks) ≡ map (cut_for m.items) asks
  cuts-restored [] = refl
  cuts-restored (ask ∷ asks) = ap (λ (cuts : List Cut). cut_for m.items ask ∷ cuts) (cuts-restored asks)

  all-back : {X Y : Type 0} (f : X → Y) (P : Y → Type 0) (xs : List X) → All P (map f xs) → All (λ x. P (f x)) xs
  all-back f P xs h k d within = subst P (get_or-map f xs k d (f d) within) (h k (f d) (omega (arith, length-map xs f)))

  -- demands that are distinct and don't fall rise
  not-above : (a b : Demand) → is_lt (demand_order b a) ≡ false → a ≢ b → demand_order a b ≡ Less
  not-above a b up differ = by (demand_order b a) refl
    where
      by : (o : Ordering) → demand_order b a ≡ o → demand_order a b ≡ Less
      by Less is = let clash : false ≡ true = sym up ∙ ap is_lt is in absurd (cc)
      by Equal is = absurd (differ (sym ((ties b a).0 is)))
      by Greater is = demand_total.antisymm a b ∙ ap ordering_reverse is

  abbrev demand_in : Found → Demand
  demand_in found = found.demand

  found-rise : (found : List Found) → AllPairs (λ a b. a ≢ b) (map found_row found) → IsSortedByKey demand_in demand_order found → AllPairs (λ a b. demand_order a.demand b.demand ≡ Less) found
  found-rise found apart up =
      rises-pairs demand_in found
      (rise-from demand_in found
      (λ k d within.
      not-above (get_or found k d).demand (get_or found (k + 1) d).demand (up k d (omega arith) within)
      (λ e. pairs-back found_row (λ a b. a ≢ b) found apart k (k + 1) d (omega arith) within (ap words_of e))))

  module _ (pairs : List (List ℕ × Piece)) (needed : AreAllNeeded (row_needs (m ∷ [])) (row_of start ∷ []) (map (λ pair. pair.0) pairs)) (pieces : All IsExpanded pairs)
      (few : length pairs ≤ 65536) (small : sum_by (λ pair. row_size (m ∷ []) pair.0) pairs ≤ 8388608)
      (sorted : List Found) (moved : IsPermutation (filter_map piece_found (reverse pairs)) sorted) (up : IsSortedByKey demand_in demand_order sorted) where
    abbrev pair_row : List ℕ × Piece → List ℕ
    pair_row pair = pair.0

    back : AreFound (reverse pairs)
    back =
        found-in (reverse pairs) (All-permutation IsExpanded pairs (reverse pairs) (IsPermutation-reverse pairs) pieces)
        (All-permutation IsNeededPair pairs (reverse pairs) (IsPermutation-reverse pairs)
        (all-back pair_row (by_row.IsNeeded (row_needs (m ∷ [])) (row_of start ∷ [])) pairs needed.needed))

    sound : All IsSound sorted
    sound = All-permutation IsSound (filter_map piece_found (reverse pairs)) sorted moved back.sound

    rows-moved : IsPermutation (map pair_row pairs) (map found_row sorted)
    rows-moved =
        IsPermutation-trans (map pair_row pairs) (map pair_row (reverse pairs)) (map found_row sorted)
        (IsPermutation-map pair_row pairs (reverse pairs) (IsPermutation-reverse pairs))
        (subst (λ (rs : List (List ℕ)). IsPermutation rs (map found_row sorted)) back.rows_are (IsPermutation-map found_row (filter_map piece_found (reverse pairs)) sorted moved))

    functions : AreFunctions (map pair_row pairs) (map ask_of sorted)
    functions = record {
      needed = needed;
      rows_are = subst (IsPermutation (map pair_row pairs)) (rows-restored sorted sound) rows-moved;
      good = asks-good sorted sound;
    }

    rise : AllPairs (λ a b. demand_order (demand_of a) (demand_of b) ≡ Less) (map ask_of sorted)
    rise =
        let all_rows = any_order (row_needs (m ∷ [])) (row_of start ∷ []) (map pair_row pairs) (map found_row sorted) rows-moved needed in
        let R : Found → Found → Type 0 = λ a b. demand_order a.demand b.demand ≡ Less in
        pairs-back found_for R (map ask_of sorted) (subst (AllPairs R) (restored sorted sound) (found-rise sorted all_rows.distinct up))

    pub planned : IsPlanned m.items start (filter_map cut_of sorted)
    planned =
        let asks = map ask_of sorted in
        let cuts : map (cut_for m.items) asks ≡ filter_map cut_of sorted = sym (ap (filter_map cut_of) (restored sorted sound) ∙ cuts-restored asks) in
        let sizes : sum_by (row_size (m ∷ [])) (map pair_row pairs) ≡ sum_by (λ pair. row_size (m ∷ []) pair.0) pairs = sum_by-map pair_row (row_size (m ∷ [])) pairs in
        subst (IsPlanned m.items start) cuts (record {
          least = least-plan (map pair_row pairs) asks functions rise;
          few = omega (arith, few, plan-long (map pair_row pairs) asks functions, length-map pairs pair_row);
          short = omega (arith, small, sizes, plan-size (map pair_row pairs) asks functions);
        })
